-- Proves what each event led to, from what the hub returned for it.
use Rattle.std.proofs.Common.{◌≡◌, ◌<◌, ◌++◌, ℕ, Bool, cond, List, ◌∷◌, [], length, set, Option, Some, None, OnOk}
use Rattle.std.proofs.Common.{Result, Ok, Err, sym, ◌∙◌, ap, refl, subst}
use Rattle.std.specs.Prelude.{true, IsSome, option_and_then, option_map, if◌then◌else◌}
use Rattle.std.proofs.lemmas.List.{set-get_or}
use Rattle.clock_http.specs.Framing.{needs_more}
use Rattle.clock_api.specs.Replies.{Answer}
use Rattle.clock_connections.specs.declared.connections.Conn.{Conn}
use Rattle.clock_connections.specs.declared.connections.HubFault.{HubFault}
use Rattle.clock_connections.specs.declared.connections.HubFault.TheVariants.{Full, NoMemory, Unknown}
use Rattle.clock_connections.specs.Connections.{IsConnected, is_full, most_serials, open_text}
use Rattle.clock_connections.specs.Pieces.{Numbered, text_so_far}
use Rattle.clock_connections.specs.inside.Numbers.{AreNumbered, conn_at, if_open, opened, text_of_made}
use Rattle.clock_connections.proofs.NumberLaws.{connected_stands, gone_stands, refused_stands, standing_text}
use Rattle.clock_connections.proofs.NumberLaws.{taken_stands}
use Rattle.clock_front.specs.declared.hub.Fed.TheVariants.{More, Reply}
use Rattle.clock_front.specs.declared.runs.EventReply.{EventReply}
use Rattle.clock_front.specs.Hubs.{HubFields, IsAnswered, IsFedBy, IsFinishFault}
use Rattle.clock_front.specs.inside.NumberedHubs.{HasTaken}
use Rattle.clock_front.proofs.ConnectionLaws.{some_text}

-- ---- a client connects

-- What holds of a list holds of an equal one, if both are known after success only.
if_equal : {T E : Type 0} (reported : Result T E) (P : List (Option Conn) → Type 0) (list other : List (Option Conn))
    → P other → OnOk reported (list ≡ other) → OnOk reported (P list)
if_equal (Ok value) P list other holds is = subst P (sym is) holds
if_equal (Err e) P list other holds is = tt

module _ {T E : Type 0} (pushed : Result T E) (numbered : Numbered) (old new : HubFields)
    (conns more : List (Option Conn)) (stands : AreNumbered numbered old.connections conns) where
  abbrev leads_to : List (Option Conn) → Type 0
  leads_to list = HasTaken (numbered ++ opened numbered ∷ []) None old new list None

  pub connected : (conn : Conn) → IsConnected old.connections new.connections conn → new.house ≡ old.house
      → OnOk pushed (more ≡ conns ++ Some conn ∷ []) → OnOk pushed (leads_to more)
  connected conn is still = if_equal pushed leads_to more (conns ++ Some conn ∷ []) (record {
    stands = connected_stands numbered old.connections new.connections conns conn stands is;
    reported = still;
  })

  pub not_connected : is_full old.connections ≡ true → length conns < most_serials → new ≡ old
      → OnOk pushed (more ≡ conns ++ None ∷ []) → OnOk pushed (leads_to more)
  not_connected full few still = if_equal pushed leads_to more (conns ++ None ∷ []) (record {
    stands = subst (λ (hub : HubFields). AreNumbered (numbered ++ opened numbered ∷ []) hub.connections
        (conns ++ None ∷ [])) (sym still) (refused_stands numbered old.connections conns stands full few);
    reported = ap (λ (hub : HubFields). hub.house) still;
  })

-- ---- a piece of a request, or its end

-- The end of a request is refused only because the connection is not open.
pub not_open : (fault : HubFault) (known : Option (List ℕ)) → IsFinishFault known fault → known ≡ None
not_open Full known is = absurd is
not_open NoMemory known is = absurd is
not_open Unknown known is = is

module _ (numbered : Numbered) (old new : HubFields) (conns : List (Option Conn)) (number : ℕ)
    (stands : AreNumbered numbered old.connections conns) where
  -- What a piece led to, and what the end did, by the text so far of the connection.
  abbrev piece_led_to : List ℕ → Option EventReply → Option (List ℕ) → Type 0
  piece_led_to piece reported o = HasTaken (set numbered number (option_and_then (λ text. if_open (text ++ piece)) o))
      (option_and_then (λ text. if needs_more (text ++ piece) then None else Some (number, text ++ piece)) o)
      old new conns reported

  abbrev end_led_to : Option EventReply → Option (List ℕ) → Type 0
  end_led_to reported o =
      HasTaken (set numbered number None) (option_map (λ text. (number, text)) o) old new conns reported

  -- Without an open connection, nothing happens.
  idle : text_so_far numbered number ≡ None → new ≡ old → HasTaken (set numbered number None) None old new conns None
  idle none still = record {
    stands = subst (λ (list : Numbered). AreNumbered list new.connections conns)
        (sym (ap (set numbered number) (sym none) ∙ set-get_or numbered number None))
        (subst (λ (hub : HubFields). AreNumbered numbered hub.connections conns) (sym still) stands);
    reported = ap (λ (hub : HubFields). hub.house) still;
  }

  pub idle_piece : (piece : List ℕ) → text_so_far numbered number ≡ None → new ≡ old
      → piece_led_to piece None (text_so_far numbered number)
  idle_piece piece none still = subst (piece_led_to piece None) (sym none) (idle none still)

  pub idle_end : text_so_far numbered number ≡ None → new ≡ old → end_led_to None (text_so_far numbered number)
  idle_end none still = subst (end_led_to None) (sym none) (idle none still)

  pub never_opened : conn_at conns number ≡ None → text_so_far numbered number ≡ None
  never_opened at = sym (stands.texts number) ∙ ap (text_of_made old.connections) at

  module _ (conn : Conn) (at : conn_at conns number ≡ Some conn) where
    pub text_is : (o : Option (List ℕ)) → open_text old.connections conn ≡ o → text_so_far numbered number ≡ o
    text_is o is = sym (standing_text numbered old.connections conns number conn stands at) ∙ is

    pub piece_taken : (piece : List ℕ) → IsSome (open_text old.connections conn) → IsFedBy old new conn piece More
        → piece_led_to piece None (text_so_far numbered number)
    piece_taken piece stood fed =
        let has = some_text (open_text old.connections conn) stood in
        let joined = has.0 ++ piece in
        let is = text_is (Some has.0) has.1 in
        let now = fed has.0 has.1 in
        subst (piece_led_to piece None) (sym is) (subst (λ (b : Bool). HasTaken (set numbered number (cond b
        (Some joined) None)) (cond b None (Some (number, joined))) old new conns None) (sym now.0) (record {
          stands = taken_stands numbered old.connections new.connections conns number conn has.0 joined stands at is
              now.1;
          reported = now.2;
        }))

    pub piece_answered : (piece : List ℕ) (reply : Answer) → IsSome (open_text old.connections conn)
        → IsFedBy old new conn piece (Reply reply)
        → piece_led_to piece (Some (record { number = number; reply = reply })) (text_so_far numbered number)
    piece_answered piece reply stood fed =
        let one : Option EventReply = Some (record { number = number; reply = reply }) in
        let has = some_text (open_text old.connections conn) stood in
        let joined = has.0 ++ piece in
        let is = text_is (Some has.0) has.1 in
        let now = fed has.0 has.1 in
        subst (piece_led_to piece one) (sym is) (subst (λ (b : Bool). HasTaken (set numbered number (cond b
        (Some joined) None)) (cond b None (Some (number, joined))) old new conns one) (sym now.0) (record {
          stands = gone_stands numbered old.connections new.connections conns number conn has.0 stands at is
              now.1.gone;
          reported = (refl, now.1.answered, now.1.setup);
        }))

    pub end_answered : (reply : Answer) → IsSome (open_text old.connections conn)
        → ((text : List ℕ) → open_text old.connections conn ≡ Some text → IsAnswered old new conn text reply)
        → end_led_to (Some (record { number = number; reply = reply })) (text_so_far numbered number)
    end_answered reply stood answered =
        let has = some_text (open_text old.connections conn) stood in
        let is = text_is (Some has.0) has.1 in
        let now = answered has.0 has.1 in
        subst (end_led_to (Some (record { number = number; reply = reply }))) (sym is) (record {
          stands = gone_stands numbered old.connections new.connections conns number conn has.0 stands at is now.gone;
          reported = (refl, now.answered, now.setup);
        })
