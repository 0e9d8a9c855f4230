-- The open connections of the code stay those of the numbers, event by event. Serial numbers are never reused, so a
-- connection is never mistaken for a later one.
use Rattle.std.proofs.Common.{◌≡◌, ◌≢◌, ◌<◌, ◌≤◌, ◌+◌, ℕ, Bool, true, false, cond, eqb, List, [], ◌∷◌, ◌++◌, length}
use Rattle.std.proofs.Common.{get_or, set, ◌⊎◌}
use Rattle.std.proofs.Common.{Option, Some, None, refl, sym, ◌∙◌, ap, subst, arith, inl, inr, eqb-true, length-append}
use Rattle.std.specs.Prelude.{is_some, count_by, nat_lt, nat_le, ◌||◌}
use Rattle.std.proofs.lemmas.Bool.{cases_Bool, eqb-false}
use Rattle.std.proofs.lemmas.Bool.Decides.{nat_tests}
use Rattle.std.proofs.lemmas.List.{get_or_append_left, get_or_push, get_or_past, get_or-set_same, get_or-set_other}
use Rattle.std.proofs.lemmas.List.{length-set}
use Rattle.std.proofs.lemmas.List.Sums.{sum_by_push, sum_by-set}
use Rattle.clock_connections.specs.declared.connections.Conn.{Conn}
use Rattle.clock_connections.specs.Connections.{most_connections, most_serials, ConnectionFields, open_text, open_count}
use Rattle.clock_connections.specs.Connections.{is_full, LeavesOthers, IsConnected, IsTaken, IsGone}
use Rattle.clock_connections.specs.Pieces.{Numbered, text_so_far}
use Rattle.clock_connections.specs.inside.Numbers.{opened, conn_at, text_of_made, AreNumbered}

-- ---- a client connects

-- a list with one more item
module _ {X : Type 0} (xs : List X) (x d : X) where
  pub pushed_before : (k : ℕ) → k < length xs → get_or (xs ++ x ∷ []) k d ≡ get_or xs k d
  pushed_before k lt = get_or_append_left xs (x ∷ []) d k lt

  pub pushed_last : (k : ℕ) → k ≡ length xs → get_or (xs ++ x ∷ []) k d ≡ x
  pushed_last k is = get_or_push xs x d k (sym is)

  pub pushed_length : length (xs ++ x ∷ []) ≡ length xs + 1
  pushed_length = length-append xs (x ∷ [])

  pub pushed_past : (k : ℕ) → length xs < k → get_or (xs ++ x ∷ []) k d ≡ d
  pushed_past k lt = (let long = pushed_length in get_or_past (xs ++ x ∷ []) k d (omega arith))

-- a number is below the length, equal to it, or above
data Place (k n : ℕ) : Type 0 where
  is_before : k < n → Place k n
  is_end : k ≡ n → Place k n
  is_past : n < k → Place k n

place : (k n : ℕ) → Place k n
place k n =
    elim (cases_Bool (nat_lt k n)) [
      | inl less ↦ is_before (let lt : k < n = grind (arith, nat_tests) in lt)
      | inr more ↦ elim (cases_Bool (eqb k n)) [
        | inl same ↦ is_end (eqb-true k n same)
        | inr unlike ↦ (let le : n ≤ k = grind (arith, nat_tests) in let differs : k ≢ n = eqb-false k n unlike in
            is_past (omega arith))
      ]
    ]

-- an opened connection has a number below the length
pub made_before : (conns : List (Option Conn)) (number : ℕ) (conn : Conn) → conn_at conns number ≡ Some conn
    → number < length conns
made_before conns number conn is =
    elim (cases_Bool (nat_lt number (length conns))) [
      | inl less ↦ (let lt : number < length conns = grind (arith, nat_tests) in lt)
      | inr more ↦ absurd (let le : length conns ≤ number = grind (arith, nat_tests) in
          let bad : None ≡ Some conn = sym (get_or_past conns number None le) ∙ is in cc)
    ]

-- a new connection has another serial number than all before it
pub serial_differs : (numbered : Numbered) (old new : ConnectionFields) (conns : List (Option Conn)) (conn other : Conn)
    (number : ℕ) → AreNumbered numbered old conns → IsConnected old new conn
    → conn_at conns number ≡ Some other → other ≢ conn
serial_differs numbered old new conns conn other number stands is at = λ same.
    (let lt = stands.earlier number other at in let e : other.serial ≡ conn.serial = ap (λ (c : Conn). c.serial) same in
    let s = is.serial in omega arith)

-- the text of an earlier connection after one more was opened
pub text_kept : (numbered : Numbered) (old new : ConnectionFields) (conns : List (Option Conn)) (conn : Conn)
    (number : ℕ) → AreNumbered numbered old conns → IsConnected old new conn → (o : Option Conn)
    → conn_at conns number ≡ o → text_of_made new o ≡ text_of_made old o
text_kept numbered old new conns conn number stands is None at = refl
text_kept numbered old new conns conn number stands is (Some other) at =
    is.others other (serial_differs numbered old new conns conn other number stands is at)

-- the number of open connections, and one more
abbrev one_if : Option (List ℕ) → ℕ
one_if o = cond (is_some o) 1 0

counted_push : (numbered : Numbered) (o : Option (List ℕ))
    → count_by is_some (numbered ++ o ∷ []) ≡ count_by is_some numbered + one_if o
counted_push numbered o = sum_by_push one_if numbered o

-- the texts by number, with one more
pushed_texts : (numbered : Numbered) (new : ConnectionFields) (conns : List (Option Conn)) (o : Option Conn)
    (t : Option (List ℕ)) → length conns ≡ length numbered
    → ((number : ℕ) → text_of_made new (conn_at conns number) ≡ text_so_far numbered number) → text_of_made new o ≡ t
    → (number : ℕ) → text_of_made new (conn_at (conns ++ o ∷ []) number) ≡ text_so_far (numbered ++ t ∷ []) number
pushed_texts numbered new conns o t all kept last number = by (place number (length conns))
  where
    by : Place number (length conns)
        → text_of_made new (conn_at (conns ++ o ∷ []) number) ≡ text_so_far (numbered ++ t ∷ []) number
    by (is_before lt) = ap (text_of_made new) (pushed_before conns o None number lt) ∙ kept number
        ∙ sym (pushed_before numbered t None number (omega arith))
    by (is_end is) = ap (text_of_made new) (pushed_last conns o None number is) ∙ last
        ∙ sym (pushed_last numbered t None number (is ∙ all))
    by (is_past lt) = ap (text_of_made new) (pushed_past conns o None number lt)
        ∙ sym (pushed_past numbered t None number (omega arith))

-- each connection of a longer list is one of the shorter or the last
at_push : (conns : List (Option Conn)) (o : Option Conn) (number : ℕ) (conn : Conn) → conn_at (conns ++ o ∷ []) number
    ≡ Some conn → (conn_at conns number ≡ Some conn) ⊎ ((number ≡ length conns) × (o ≡ Some conn))
at_push conns o number conn is = by (place number (length conns))
  where
    by : Place number (length conns) → (conn_at conns number ≡ Some conn) ⊎ ((number ≡ length conns) × (o ≡ Some conn))
    by (is_before lt) = inl (sym (pushed_before conns o None number lt) ∙ is)
    by (is_end end) = inr (end, sym (pushed_last conns o None number end) ∙ is)
    by (is_past lt) = absurd (let bad : None ≡ Some conn = sym (pushed_past conns o None number lt) ∙ is in cc)

-- no two are the same if the last is none of those before
pushed_apart : (conns : List (Option Conn)) (o : Option Conn)
    → ((one other : ℕ) (conn : Conn) → conn_at conns one ≡ Some conn → conn_at conns other ≡ Some conn → one ≡ other)
    → ((number : ℕ) (conn : Conn) → conn_at conns number ≡ Some conn → o ≢ Some conn) → (one other : ℕ) (conn : Conn)
    → conn_at (conns ++ o ∷ []) one ≡ Some conn → conn_at (conns ++ o ∷ []) other ≡ Some conn → one ≡ other
pushed_apart conns o apart fresh one other conn at_one at_other =
    elim (at_push conns o one conn at_one) [
      | inl early ↦ elim (at_push conns o other conn at_other) [
        | inl too ↦ apart one other conn early too
        | inr last ↦ absurd (fresh one conn early last.1)
      ]
      | inr first ↦ elim (at_push conns o other conn at_other) [
        | inl early ↦ absurd (fresh other conn early first.1)
        | inr last ↦ first.0 ∙ sym last.0
      ]
    ]

abbrev opened_if : Bool → Option (List ℕ)
opened_if b = cond b (Some []) None

-- no connection is opened if the limit is reached
pub refused_stands : (numbered : Numbered) (connections : ConnectionFields) (conns : List (Option Conn))
    → AreNumbered numbered connections conns → is_full connections ≡ true → length conns < most_serials
    → AreNumbered (numbered ++ opened numbered ∷ []) connections (conns ++ None ∷ [])
refused_stands numbered connections conns stands full few =
    subst (λ (o : Option (List ℕ)). AreNumbered (numbered ++ o ∷ []) connections (conns ++ None ∷ [])) (sym none)
    (record {
      all = pushed_length conns None None ∙ ap (λ n. n + 1) stands.all ∙ sym (pushed_length numbered None None);
      texts = pushed_texts numbered connections conns None None stands.all stands.texts refl;
      apart = pushed_apart conns None stands.apart (λ number conn at same. (let bad = same in cc));
      earlier = λ number conn at. elim (at_push conns None number conn at) [
        | inl early ↦ stands.earlier number conn early
        | inr last ↦ absurd (let bad = last.1 in cc)
      ];
      count = stands.count ∙ (let e = counted_push numbered None in omega arith);
      few = (let e = pushed_length numbered None None in let le = stands.few in omega arith);
    })
  where
    none : opened numbered ≡ None
    none =
        elim (cases_Bool (nat_le most_connections (open_count connections))) [
          | inl many_stand ↦ (let c = stands.count in let no_room : nat_lt (count_by is_some numbered) most_connections
              ≡ false = grind (arith, nat_tests) in ap opened_if no_room)
          | inr room ↦ absurd (let bad : nat_le most_serials connections.next ≡ true =
              sym (ap (λ (b : Bool). b || nat_le most_serials connections.next) room) ∙ full in
              let le : most_serials ≤ connections.next = grind (arith, nat_tests) in let n = stands.few in
              let e = stands.all in omega arith)
        ]

-- a connection is opened if the limit is not reached
pub connected_stands : (numbered : Numbered) (old new : ConnectionFields) (conns : List (Option Conn)) (conn : Conn)
    → AreNumbered numbered old conns → IsConnected old new conn
    → AreNumbered (numbered ++ opened numbered ∷ []) new (conns ++ Some conn ∷ [])
connected_stands numbered old new conns conn stands is =
    subst (λ (o : Option (List ℕ)). AreNumbered (numbered ++ o ∷ []) new (conns ++ Some conn ∷ [])) (sym some)
    (record {
      all = pushed_length conns (Some conn) None ∙ ap (λ n. n + 1) stands.all
          ∙ sym (pushed_length numbered (Some []) None);
      texts = pushed_texts numbered new conns (Some conn) (Some []) stands.all (λ number. text_kept numbered old new
          conns conn number stands is (conn_at conns number) refl ∙ stands.texts number) is.stands;
      apart = pushed_apart conns (Some conn) stands.apart (λ number other at same.
          serial_differs numbered old new conns conn other number stands is at (let e = same in cc));
      earlier = λ number other at. elim (at_push conns (Some conn) number other at) [
        | inl early ↦ (let lt = stands.earlier number other early in let n = is.next in omega arith)
        | inr last ↦ (let e : conn ≡ other = (let same = last.1 in cc) in
            let s : other.serial ≡ conn.serial = ap (λ (c : Conn). c.serial) (sym e) in
            let t = is.serial in let n = is.next in omega arith)
      ];
      count = (let e = counted_push numbered (Some []) in let c = is.count in let before = stands.count in omega arith);
      few = (let e = pushed_length numbered (Some []) None in let le = stands.few in let n = is.next in omega arith);
    })
  where
    some : opened numbered ≡ Some []
    some =
        elim (cases_Bool (nat_le most_connections (open_count old))) [
          | inl many_stand ↦ absurd (let bad : true
              ≡ false = sym (ap (λ (b : Bool). b || nat_le most_serials old.next) many_stand) ∙ is.room in cc)
          | inr room ↦ (let c = stands.count in let less : nat_lt (count_by is_some numbered) most_connections ≡ true =
              grind (arith, nat_tests) in ap opened_if less)
        ]

-- ---- the text of a connection changes

-- one connection has this text now, or none, and all else is unchanged
pub record IsChanged (old new : ConnectionFields) (conn : Conn) (before now : Option (List ℕ)) : Type 0 where
  pub shown : open_text new conn ≡ now
  pub others : LeavesOthers old new conn
  pub next : new.next ≡ old.next
  pub count : open_count new + one_if before ≡ open_count old + one_if now

-- the texts by number, if the text of one number changes
changed_texts : (numbered : Numbered) (old new : ConnectionFields) (conns : List (Option Conn)) (number : ℕ)
    (conn : Conn) (before now : Option (List ℕ)) → AreNumbered numbered old conns → conn_at conns number ≡ Some conn
    → IsChanged old new conn before now → (other : ℕ)
    → text_of_made new (conn_at conns other) ≡ text_so_far (set numbered number now) other
changed_texts numbered old new conns number conn before now stands at is other =
    elim (cases_Bool (eqb other number)) [
      | inl same ↦ here (eqb-true other number same)
      | inr unlike ↦ elsewhere (eqb-false other number unlike)
    ]
  where
    here : other ≡ number → text_of_made new (conn_at conns other) ≡ text_so_far (set numbered number now) other
    here same = ap (λ k. text_of_made new (conn_at conns k)) same ∙ ap (text_of_made new) at ∙ is.shown
        ∙ sym (ap (text_so_far (set numbered number now)) same
        ∙ get_or-set_same numbered number now None (let lt = made_before conns number conn at in
        let e = stands.all in omega arith))

    made : (o : Option Conn) → conn_at conns other ≡ o → other ≢ number → text_of_made new o ≡ text_of_made old o
    made None at_other unlike = refl
    made (Some one) at_other unlike =
        is.others one (λ same. unlike (stands.apart other number conn (at_other ∙ ap Some same) at))

    elsewhere : other ≢ number → text_of_made new (conn_at conns other) ≡ text_so_far (set numbered number now) other
    elsewhere unlike = made (conn_at conns other) refl unlike ∙ stands.texts other
        ∙ sym (get_or-set_other numbered number other now None unlike)

-- the connection of a number has another text, or none
pub changed_stands : (numbered : Numbered) (old new : ConnectionFields) (conns : List (Option Conn)) (number : ℕ)
    (conn : Conn) (now : Option (List ℕ)) → AreNumbered numbered old conns → conn_at conns number ≡ Some conn
    → IsChanged old new conn (text_so_far numbered number) now → AreNumbered (set numbered number now) new conns
changed_stands numbered old new conns number conn now stands at is =
    let size = length-set numbered number now in
    record {
      all = stands.all ∙ sym size;
      texts = changed_texts numbered old new conns number conn (text_so_far numbered number) now stands at is;
      apart = stands.apart;
      earlier = λ other one at_other. (let lt = stands.earlier other one at_other in let n = is.next in omega arith);
      count = (let lt = made_before conns number conn at in let e = stands.all in
          let c = sum_by-set one_if numbered number now None (omega arith) in
          let k = is.count in let s = stands.count in omega arith);
      few = (let le = stands.few in let n = is.next in omega arith);
    }

-- a piece was appended, and the connection stays open
pub taken_stands : (numbered : Numbered) (old new : ConnectionFields) (conns : List (Option Conn)) (number : ℕ)
    (conn : Conn) (text joined : List ℕ) → AreNumbered numbered old conns → conn_at conns number ≡ Some conn
    → text_so_far numbered number ≡ Some text → IsTaken old new conn joined
    → AreNumbered (set numbered number (Some joined)) new conns
taken_stands numbered old new conns number conn text joined stands at has is =
    changed_stands numbered old new conns number conn (Some joined) stands at
    (record {
      shown = is.stands;
      others = is.others;
      next = is.next;
      count = (let c = is.count in let e : one_if (text_so_far numbered number) ≡ 1 = ap one_if has in omega arith);
    })

-- the connection was answered
pub gone_stands : (numbered : Numbered) (old new : ConnectionFields) (conns : List (Option Conn)) (number : ℕ)
    (conn : Conn) (text : List ℕ) → AreNumbered numbered old conns → conn_at conns number ≡ Some conn
    → text_so_far numbered number ≡ Some text → IsGone old new conn → AreNumbered (set numbered number None) new conns
gone_stands numbered old new conns number conn text stands at has is =
    changed_stands numbered old new conns number conn None stands at
    (record {
      shown = is.gone;
      others = is.others;
      next = is.next;
      count = (let c = is.count in let e : one_if (text_so_far numbered number) ≡ 1 = ap one_if has in omega arith);
    })

-- an open connection has the text of its number
pub standing_text : (numbered : Numbered) (connections : ConnectionFields) (conns : List (Option Conn)) (number : ℕ)
    (conn : Conn) → AreNumbered numbered connections conns → conn_at conns number ≡ Some conn
    → open_text connections conn ≡ text_so_far numbered number
standing_text numbered connections conns number conn stands at =
    ap (text_of_made connections) (sym at) ∙ stands.texts number
