-- An option's number, parsed and then compared with its limits, is the number that the definition gives for its text.
use Rattle.std.proofs.Common.{◌≡◌, ◌≤◌, ℕ, Bool, List, Option, Some, None, Ok, Err, Result, nat_le, ◌&&◌, cond}
use Rattle.std.proofs.Common.{option_and_then}
use Rattle.std.proofs.Common.{true, false, refl, sym, subst, ◌∙◌}
use Rattle.std.proofs.lemmas.Bool.{leb-true, le-leb}
use Rattle.std.specs.Str.Parse.{ParsesUnsigned}
use Rattle.clap.specs.Matches.{ReadsOne}
use Rattle.clap.specs.ValueTests.{is_unsigned_in}
use Rattle.clap.specs.declared.builder.value_parser.ValueParser.TheVariants as parser
use Rattle.clap.proofs.ValueTestLemmas.{accepts-Accepts, Accepts-accepts}
use Rattle.clap.proofs.WalkLemmas.{both}
use Rattle.clock_terms.specs.Limits.{is_within}
use Rattle.clock_console.specs.Words.{number_within}
use Rattle.clock_console.specs.inside.Commands.{within_limits}

same_choice : (a b : Bool) (n v : ℕ) → n ≡ v → (a ≡ true → b ≡ true) → (b ≡ true → a ≡ true)
    → cond a (Some n) None ≡ cond b (Some v) None
same_choice true true n v e there back = rw e refl
same_choice true false n v e there back = let clash : false ≡ true = there refl in cc
same_choice false true n v e there back = let clash : false ≡ true = back refl in cc
same_choice false false n v e there back = refl

none_taken : (b : Bool) (v : ℕ) → (b ≡ true → ⊥) → ◌≡◌ {A = Option ℕ} None (cond b (Some v) None)
none_taken true v never = absurd (never refl)
none_taken false v never = refl

module _ {E : Type 0} (gives : List ℕ → Result ℕ E → Type 0)
    (parses : (t : List ℕ) (r : Result ℕ E) → gives t r → ParsesUnsigned 64 10 t r) (least most : ℕ) where
  read_at : (t : List ℕ) (r : Option ℕ) → ReadsOne gives t r → within_limits least most r ≡ number_within least most t
  read_at t None given = none_taken (is_unsigned_in least most t) _
      (λ e. let accepted = accepts-Accepts false (parser.Unsigned least most) t e in
      parses t (Err given.0) given.1 (accepted.0, accepted.1))
  read_at t (Some n) given =
      let parsed = parses t (Ok n) given in
      same_choice (nat_le least n && nat_le n most) (is_unsigned_in least most t) n _ parsed.1
      (λ e. let limits = both (nat_le least n) (nat_le n most) e in
      Accepts-accepts false (parser.Unsigned least most) t (
        parsed.0.0,
        parsed.0.1,
        subst (λ (k : ℕ). least ≤ k) parsed.1 (leb-true _ _ limits.0),
        subst (λ (k : ℕ). k ≤ most) parsed.1 (leb-true _ _ limits.1),
      ))
      (λ e. let accepted = accepts-Accepts false (parser.Unsigned least most) t e in
      let enough = le-leb least n (subst (λ (k : ℕ). least ≤ k) (sym parsed.1) accepted.2) in
      let few = le-leb n most (subst (λ (k : ℕ). k ≤ most) (sym parsed.1) accepted.3) in
      rw (enough, few) refl)

  pub number_read : (text : Option (List ℕ)) (r : Option ℕ) → (text ≡ None → r ≡ None) → ((t : List ℕ) → text ≡ Some t
      → ReadsOne gives t r) → within_limits least most r ≡ option_and_then (number_within least most) text
  number_read None r none some = rw (none refl) refl
  number_read (Some t) r none some = read_at t r (some t refl)

  -- a number within the limits is returned, and no other
  pub kept : (text : Option (List ℕ)) (r : Option ℕ) (n : ℕ) → r ≡ Some n → is_within least most n ≡ true
      → (text ≡ None → r ≡ None) → ((t : List ℕ) → text ≡ Some t → ReadsOne gives t r)
      → Some n ≡ option_and_then (number_within least most) text
  kept text r n is test none some =
      subst (λ (o : Option ℕ). Some n ≡ within_limits least most o) (sym is)
      (subst (λ (b : Bool). Some n ≡ cond b (Some n) None) (sym test) refl) ∙ number_read text r none some

  pub left_out : (text : Option (List ℕ)) (r : Option ℕ) (n : ℕ) → r ≡ Some n → is_within least most n ≡ false
      → (text ≡ None → r ≡ None) → ((t : List ℕ) → text ≡ Some t → ReadsOne gives t r)
      → None ≡ option_and_then (number_within least most) text
  left_out text r n is test none some = subst (λ (o : Option ℕ). None ≡ within_limits least most o) (sym is) (subst
      (λ (b : Bool). ◌≡◌ {A = Option ℕ} None (cond b (Some n) None)) (sym test) refl) ∙ number_read text r none some

  pub none_read : (text : Option (List ℕ)) (r : Option ℕ) → r ≡ None → (text ≡ None → r ≡ None)
      → ((t : List ℕ) → text ≡ Some t → ReadsOne gives t r) → None ≡ option_and_then (number_within least most) text
  none_read text r is none some =
      subst (λ (o : Option ℕ). None ≡ within_limits least most o) (sym is) refl ∙ number_read text r none some
