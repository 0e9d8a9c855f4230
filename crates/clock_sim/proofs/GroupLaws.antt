-- The requests of a group, sent heads first and then bodies, have the replies that they would have one after the other.
-- A connection changes no other, and a head by itself changes no house.
use Rattle.std.proofs.Common.{◌≡◌, ◌≢◌, ℕ, ◌+◌, ◌<◌, ◌≤◌, Bool, true, false, eqb, List, [], ◌∷◌, ◌++◌, length, drop}
use Rattle.std.proofs.Common.{get_or, ◌⊎◌, inl, inr, Some}
use Rattle.std.proofs.Common.{Result, Ok, Err, refl, sym, ◌∙◌, ap, subst, eqb-true, true≢false, arith}
use Rattle.std.specs.Prelude.{if◌then◌else◌, nat_lt}
use Rattle.std.proofs.lemmas.Bool.{cases_Bool, eqb-false}
use Rattle.std.proofs.lemmas.Bool.Decides.{nat_tests}
use Rattle.std.proofs.lemmas.List.{get_or_default, get_or_append_left, get_or_push, length_push}
use Rattle.std.proofs.lemmas.List.Elements.{All-push}
use Rattle.clock_terms.specs.Limits.{SetupFields}
use Rattle.clock_terms.specs.Faults.{◌>>=◌}
use Rattle.clock_house.specs.House.{HouseFields}
use Rattle.clock_http.specs.Framing.{needs_more}
use Rattle.clock_connections.specs.Connections.{ConnectionFields, open_text, LeavesOthers, IsConnected}
use Rattle.clock_front.specs.Hubs.{HubFields, IsFed}
use Rattle.clock_connections.specs.declared.connections.Conn.{Conn}
use Rattle.clock_front.specs.declared.hub.Fed.{Fed}
use Rattle.clock_front.specs.declared.hub.Fed.TheVariants.{More, Reply}
use Rattle.clock_scripts.specs.declared.fault.SimFault.{SimFault}
use Rattle.clock_sim.specs.Rehearsal.{after_request}
use Rattle.clock_sim.specs.inside.Groups.{GroupRequest, ClosesNoRound, text_in, after_group, HaveTextsFrom, AreApart}
use Rattle.clock_sim.specs.inside.Groups.{IsGroup}
use Rattle.clock_sim.specs.inside.Steps.{MakesStep}
use Rattle.clock_sim.proofs.StepLaws.{Texts, Step, IsOnWay, next_at, goes_on, stops}

-- ---- one connection has changed

conn_at : List GroupRequest → ℕ → GroupRequest → Conn
conn_at group k other = (get_or group k other).conn

-- the connections at two indexes are different
two_conns : (group : List GroupRequest) (k i : ℕ) (other : GroupRequest) → AreApart group → k < length group
    → i < length group → k ≢ i → (get_or group k other).conn ≢ (get_or group i other).conn
two_conns group k i other apart below here differs = λ same.
    let e : (get_or group k other).conn.serial ≡ (get_or group i other).conn.serial =
    ap (λ (conn : Conn). conn.serial) same in
    elim (cases_Bool (nat_lt k i)) [
      | inl less ↦ (let lt : k < i = grind (arith, nat_tests) in let before = apart k i other lt here in omega arith)
      | inr more ↦ (let le : i ≤ k = grind (arith, nat_tests) in let lt : i < k = omega arith in
          let before = apart i k other lt below in omega arith)
    ]

-- only the connection at one index has changed
pub one_changed : (group : List GroupRequest) (i from next : ℕ) (one : GroupRequest) (old new : ConnectionFields)
    (text after : ℕ → GroupRequest → List ℕ) → AreApart group → i < length group → one ≡ get_or group i one
    → LeavesOthers old new one.conn → from ≤ next → HaveTextsFrom from old group text
    → ((k : ℕ) (other : GroupRequest) → next ≤ k → k ≢ i → after k other ≡ text k other)
    → (next ≤ i → open_text new one.conn ≡ Some (after i one)) → HaveTextsFrom next new group after
one_changed group i from next one old new text after apart here is others le stand same changed = λ k other at below.
    elim (cases_Bool (eqb k i)) [
      | inl equal ↦ (let at_i : k ≡ i = eqb-true k i equal in
          let this : get_or group k other ≡ one =
          ap (λ (n : ℕ). get_or group n other) at_i ∙ get_or_default group i other one here ∙ sym is in
          let P : GroupRequest → Type 0 = λ w. open_text new w.conn ≡ Some (after k w) in
          subst P (sym this) (changed (omega arith) ∙ ap (λ (n : ℕ). Some (after n one)) (sym at_i)))
      | inr unlike ↦ (let differs : k ≢ i = eqb-false k i unlike in
          let apart_from : (get_or group k other).conn ≢ one.conn =
          (λ e. two_conns group k i other apart below here differs (e ∙ ap (λ (w : GroupRequest). w.conn) is
          ∙ ap (λ (w : GroupRequest). w.conn) (get_or_default group i one other here))) in
          others (get_or group k other).conn apart_from ∙ stand k other (omega arith) below
          ∙ ap Some (sym (same k (get_or group k other) at differs)))
    ]

-- ---- heads

-- the heads before an index were sent
abbrev pub heads_to : ℕ → ℕ → GroupRequest → List ℕ
heads_to i k one = if nat_lt k i then one.head else []

fed_more : (old new : HubFields) (conn : Conn) (text : List ℕ) (fed : Fed) → IsFed old new conn text fed
    → needs_more text ≡ true → IsFed old new conn text More
fed_more old new conn text More is needs = is
fed_more old new conn text (Reply reply) is needs = absurd (true≢false (sym needs ∙ is.0))

pub head_came : (group : List GroupRequest) (i : ℕ) (one : GroupRequest) (initial : ConnectionFields)
    (old new : HubFields) (fed : Fed) → IsGroup initial group → i < length group → one ≡ get_or group i one
    → HaveTextsFrom 0 old.connections group (heads_to i)
    → ((text : List ℕ) → open_text old.connections one.conn ≡ Some text → IsFed old new one.conn (text ++ one.head) fed)
    → (new.house ≡ old.house) × HaveTextsFrom 0 new.connections group (heads_to (i + 1))
head_came group i one initial old new fed is_group here is stand is_fed =
    let none : heads_to i i one ≡ [] =
    (let no : nat_lt i i ≡ false = grind (arith, nat_tests) in ap (λ (b : Bool). if b then one.head else []) no) in
    let P : GroupRequest → Type 0 = λ w. open_text old.connections w.conn ≡ Some (heads_to i i w) in
    let blank : open_text old.connections one.conn ≡ Some [] =
    subst P (sym is) (stand i one (omega arith) here) ∙ ap Some none in
    let needs : needs_more one.head ≡ true =
    subst (λ (w : GroupRequest). needs_more w.head ≡ true) (sym is) (is_group.need i one here) in
    let more = fed_more old new one.conn one.head fed (is_fed [] blank) needs in
    let came : heads_to (i + 1) i one ≡ one.head = (let yes : nat_lt i (i + 1) ≡ true = grind (arith, nat_tests) in
    ap (λ (b : Bool). if b then one.head else []) yes) in (
      more.2,
      one_changed group i 0 0 one old.connections new.connections (heads_to i)
          (heads_to (i + 1)) is_group.apart here is more.1.others (omega arith) stand (λ k other at differs.
          let same : nat_lt k (i + 1) ≡ nat_lt k i = grind (arith, nat_tests) in
          ap (λ (b : Bool). if b then other.head else []) same) (λ at. more.1.stands ∙ ap Some (sym came)),
    )

-- ---- bodies

-- the bytes of the connection at an index
pub head_at : (connections : ConnectionFields) (group : List GroupRequest) (i : ℕ) (one : GroupRequest)
    → i < length group → one ≡ get_or group i one → HaveTextsFrom i connections group (λ k w. w.head)
    → open_text connections one.conn ≡ Some one.head
head_at connections group i one here is stand =
    subst (λ (w : GroupRequest). open_text connections w.conn ≡ Some w.head) (sym is) (stand i one (omega arith) here)

-- the others still have their heads
pub heads_kept : (old new : ConnectionFields) (group : List GroupRequest) (i : ℕ) (one : GroupRequest) → AreApart group
    → i < length group → one ≡ get_or group i one → HaveTextsFrom i old group (λ k w. w.head)
    → LeavesOthers old new one.conn → HaveTextsFrom (i + 1) new group (λ k w. w.head)
heads_kept old new group i one apart here is stand others =
    one_changed group i i (i + 1) one old new (λ k w. w.head) (λ k w. w.head) apart here is others (omega arith) stand
    (λ k other at differs. refl) (λ at. absurd (let bad = at in omega arith))

abbrev pub one_step : SetupFields → GroupRequest → Step
one_step setup one texts = after_request setup texts (Some one.bidder) one.round (text_in one)

module _ (whole : Step) (group : List GroupRequest) (i : ℕ) (one : GroupRequest) (initial now next : HouseFields)
    (below : i < length group) (is : one ≡ get_or group i one)
    (before : IsOnWay whole (after_group initial.setup (drop i group)) initial now) where
  before_body : IsOnWay whole
      (λ texts. one_step initial.setup one texts >>= after_group initial.setup (drop (i + 1) group)) initial now
  before_body = subst (λ (rest : List GroupRequest). IsOnWay whole (after_group initial.setup rest) initial now)
      (next_at group i one below is) before

  -- a request of the group is done
  pub body_done : {U : Type 0} (done : U) → MakesStep (one_step now.setup one) now next (Ok done)
      → IsOnWay whole (after_group initial.setup (drop (i + 1) group)) initial next
  body_done done made =
      goes_on whole (one_step initial.setup one) (after_group initial.setup (drop (i + 1) group)) initial now next done
      before_body (subst (λ (setup : SetupFields). MakesStep (one_step setup one) now next (Ok done)) before.setup made)

  -- a request is refused
  pub body_refused : {U T : Type 0} (fault : SimFault) → MakesStep {T = U} (one_step now.setup one) now next (Err fault)
      → MakesStep {T = T} whole initial next (Err fault)
  body_refused {U = U} {T = T} fault made = stops {U = U} {T = T} whole (one_step initial.setup one)
      (after_group initial.setup (drop (i + 1) group)) initial now next fault before_body
      (subst (λ (setup : SetupFields). MakesStep {T = U} (one_step setup one) now next (Err fault)) before.setup made)

-- ---- one more request waits

pub ended_ok : (answer : Result Texts SimFault) → answer >>= (λ sent. Ok sent) ≡ answer
ended_ok (Ok sent) = refl
ended_ok (Err fault) = refl

in_order : (answer : Result Texts SimFault) (first second third : Step)
    → ((sent : Texts) → first sent ≡ second sent >>= third) → answer >>= first ≡ answer >>= second >>= third
in_order (Ok sent) first second third same = same sent
in_order (Err fault) first second third same = refl

-- the requests of a group and one more
pub with_one : (setup : SetupFields) (group : List GroupRequest) (one : GroupRequest) (texts : Texts)
    → after_group setup (group ++ one ∷ []) texts ≡ after_group setup group texts >>= one_step setup one
with_one setup [] one texts = ended_ok (one_step setup one texts)
with_one setup (first ∷ group) one texts = in_order (one_step setup first texts) (after_group setup (group ++ one ∷ []))
    (after_group setup group) (one_step setup one) (λ sent. with_one setup group one sent)

-- no request waits
pub empty_group : (connections : ConnectionFields) (group : List GroupRequest) → length group ≡ 0
    → IsGroup connections group
empty_group connections group none = record {
  stand = λ k other at below. absurd (omega arith);
  apart = λ k j other before below. absurd (omega arith);
  earlier = λ k other below. absurd (omega arith);
  need = λ k other below. absurd (omega arith);
  close = λ k other below. absurd (omega arith);
}

module _ (old new : ConnectionFields) (group : List GroupRequest) (one : GroupRequest) (is_group : IsGroup old group)
    (is : IsConnected old new one.conn) where
  here_or_last : (k : ℕ) (other : GroupRequest) → k < length (group ++ one ∷ []) → ((k < length group) × (get_or (group
      ++ one ∷ []) k other ≡ get_or group k other)) ⊎ ((k ≡ length group) × (get_or (group ++ one ∷ []) k other ≡ one))
  here_or_last k other below =
      let long = length_push group one in
      elim (cases_Bool (nat_lt k (length group))) [
        | inl less ↦ (let lt : k < length group = grind (arith, nat_tests) in
            inl (lt, get_or_append_left group (one ∷ []) other k lt))
        | inr more ↦ (let le : length group ≤ k = grind (arith, nat_tests) in let e : k ≡ length group = omega arith in
            inr (e, get_or_push group one other k (sym e)))
      ]

  differs : (k : ℕ) (other : GroupRequest) → k < length group → (get_or group k other).conn ≢ one.conn
  differs k other below = λ same.
      let e : (get_or group k other).conn.serial ≡ one.conn.serial = ap (λ (conn : Conn). conn.serial) same in
      let before = is_group.earlier k other below in let s = is.serial in omega arith

  pub joined_group : needs_more one.head ≡ true → ClosesNoRound (text_in one) → IsGroup new (group ++ one ∷ [])
  joined_group needs closes = record {
    stand = λ k other at below. elim (here_or_last k other below) [
      | inl early ↦ (let P : GroupRequest → Type 0 = λ w. open_text new w.conn ≡ Some [] in
          subst P (sym early.1)
          (is.others (get_or group k other).conn (differs k other early.0) ∙ is_group.stand k other at early.0))
      | inr last ↦
          (let P : GroupRequest → Type 0 = λ w. open_text new w.conn ≡ Some [] in subst P (sym last.1) is.stands)
    ];
    apart = λ k j other before below. (
        let long = length_push group one in
        elim (here_or_last j other below) [
          | inl early ↦ (let lt : k < length group = let e = early.0 in omega arith in
              let k_is = get_or_append_left group (one ∷ []) other k lt in
              let at_k : (get_or (group ++ one ∷ []) k other).conn.serial ≡ (get_or group k other).conn.serial =
              ap (λ (w : GroupRequest). w.conn.serial) k_is in
              let at_j : (get_or (group ++ one ∷ []) j other).conn.serial ≡ (get_or group j other).conn.serial =
              ap (λ (w : GroupRequest). w.conn.serial) early.1 in
              let rising = is_group.apart k j other before early.0 in omega arith)
          | inr last ↦ (let lt : k < length group = let e = last.0 in omega arith in
              let k_is = get_or_append_left group (one ∷ []) other k lt in
              let at_k : (get_or (group ++ one ∷ []) k other).conn.serial ≡ (get_or group k other).conn.serial =
              ap (λ (w : GroupRequest). w.conn.serial) k_is in
              let at_j : (get_or (group ++ one ∷ []) j other).conn.serial ≡ one.conn.serial =
              ap (λ (w : GroupRequest). w.conn.serial) last.1 in
              let rising = is_group.earlier k other lt in let s = is.serial in omega arith)
        ]);
    earlier =
        All-push (λ (w : GroupRequest). w.conn.serial < new.next) group one
        (λ k other below. let before = is_group.earlier k other below in let n = is.next in omega arith)
        (let s = is.serial in let n = is.next in omega arith);
    need = All-push (λ (w : GroupRequest). needs_more w.head ≡ true) group one is_group.need needs;
    close = All-push (λ (w : GroupRequest). ClosesNoRound (text_in w)) group one is_group.close closes;
  }
