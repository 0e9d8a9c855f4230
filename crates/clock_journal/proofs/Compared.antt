-- Two sources that are read piece by piece, as long as they have the same bytes.
use Rattle.std.proofs.Common.{◌≡◌, ◌≤◌, ◌<◌, ◌+◌, ◌++◌, ◌⊎◌, inl, inr, ℕ, List, Option, length, take, get_or, sym, ap}
use Rattle.std.proofs.Common.{◌∙◌, subst, arith, length-append}
use Rattle.std.specs.Prelude.{min}
use Rattle.std.proofs.lemmas.List.{get_or_append_left, get_or-append-add, take-append-le, take_all}
use Rattle.std.proofs.Math.Seq.{take-append-add}
use Rattle.clock_device.specs.Streams.{HasRead, IsReadOut}
use Rattle.clock_device.proofs.Streams.{read_twice}
use Rattle.clock_journal.specs.Levels.{Bytes, IsPlace}
use Rattle.clock_journal.specs.Mirrors.{IsCommon}
use Rattle.clock_journal.specs.inside.Leveling.{AreSame, HaveEnds}
use Rattle.clock_journal.proofs.Sourced.{has_read, rest_of}

-- the start of bytes, up to a place in a piece of them
cut_at : (common piece rest : List ℕ) (k : ℕ) → k ≤ length piece
    → take (length common + k) ((common ++ piece) ++ rest) ≡ common ++ take k piece
cut_at common piece rest k within =
    take-append-le (length common + k) (common ++ piece) rest (omega (arith, length-append common piece, within))
    ∙ take-append-add common piece k

byte_at : (common piece rest : List ℕ) (k : ℕ) → k < length piece
    → get_or ((common ++ piece) ++ rest) (length common + k) 0 ≡ get_or piece k 0
byte_at common piece rest k within =
    get_or_append_left (common ++ piece) rest 0 (length common + k)
    (omega (arith, length-append common piece, within))
    ∙ get_or-append-add common piece k 0

-- two files differ where their pieces do
place_of : (common here there rest others_rest : List ℕ) (k : ℕ) → IsCommon here there k → k < length here
    → k < length there
    → IsPlace ((common ++ here) ++ rest) ((common ++ there) ++ others_rest) (length common + k)
place_of common here there rest others_rest k is less others_less =
    let long = length-append common here in
    let others_long = length-append common there in
    let whole = length-append (common ++ here) rest in
    let others_whole = length-append (common ++ there) others_rest in
    let in_one : length common + k < length ((common ++ here) ++ rest) = omega (arith, long, whole, less) in
    let in_other : length common + k < length ((common ++ there) ++ others_rest) =
    omega (arith, others_long, others_whole, others_less) in
    record {
      common = record {
        in_one = omega (arith, in_one);
        in_other = omega (arith, in_other);
        same = cut_at common here rest k (omega (arith, less)) ∙ (ap (λ (b : List ℕ). common ++ b) is.same
            ∙ sym (cut_at common there others_rest k (omega (arith, others_less))));
        ends = λ one_less other_less equal. is.ends less others_less
            (sym (byte_at common here rest k less) ∙ (equal ∙ byte_at common there others_rest k others_less));
      };
      in_one = in_one;
      in_other = in_other;
    }

-- the next pieces were read of both, of these sizes, and have this many bytes in common
pub record ArePieces (old new others_old others_new : Option (List ℕ)) (place k : ℕ) (here there : List ℕ)
    (count limit : ℕ) : Type 0 where
  pub before : List ℕ
  pub read : HasRead old new (before ++ here)
  pub other_read : HasRead others_old others_new (before ++ there)
  pub place_is : place ≡ length before
  pub common : IsCommon here there k
  pub size : length here ≡ count
  pub other_size : length there ≡ limit

pub next_pieces : (old mid new others_old others_mid others_new : Option (List ℕ)) (place k : ℕ) (here there : List ℕ)
    (count limit : ℕ) → AreSame old mid others_old others_mid place → HasRead mid new here
    → HasRead others_mid others_new there → IsCommon here there k → length here ≡ count → length there ≡ limit
    → ArePieces old new others_old others_new place k here there count limit
next_pieces old mid new others_old others_mid others_new place k here there count limit same more others_more common
    size other_size = record {
      before = same.common;
      read = read_twice old mid new same.common here same.read more;
      other_read = read_twice others_old others_mid others_new same.common there same.other_read others_more;
      place_is = same.place_is;
      common = common;
      size = size;
      other_size = other_size;
    }

module _ {old new others_old others_new : Option (List ℕ)} {place k : ℕ} {here there : List ℕ} {count limit : ℕ}
    (pieces : ArePieces old new others_old others_new place k here there count limit) where
  -- both pieces are whole and the same
  pub further : (next whole : ℕ) → next ≡ place + k → whole ≤ count → whole ≤ limit → count ≤ whole → limit ≤ whole
      → min count limit ≤ k → AreSame old new others_old others_new next
  further next whole next_is full others_full within others_within many =
      let size = pieces.size in
      let other_size = pieces.other_size in
      let in_one = pieces.common.in_one in
      let is_here : k ≡ length here = omega (arith, size, in_one, full, others_full, within, others_within, many) in
      let is_there : k ≡ length there =
      omega (arith, is_here, size, other_size, full, within, others_full, others_within) in
      let equal : here ≡ there = sym (take_all k here (omega (arith, is_here)))
      ∙ (pieces.common.same ∙ take_all k there (omega (arith, is_there))) in
      record {
        common = pieces.before ++ here;
        read = pieces.read;
        other_read = subst (λ (b : List ℕ). HasRead others_old others_new (pieces.before ++ b)) (sym equal)
            pieces.other_read;
        place_is = omega (arith, next_is, is_here, pieces.place_is, length-append pieces.before here);
      }

  pub differ : k < min count limit → (bytes : Bytes old others_old) × IsPlace bytes.one bytes.other (place + k)
  differ less = (
    record {
      one = (pieces.before ++ here) ++ rest_of new;
      other = (pieces.before ++ there) ++ rest_of others_new;
      of_first = has_read old new (pieces.before ++ here) pieces.read;
      of_second = has_read others_old others_new (pieces.before ++ there) pieces.other_read;
    },
    subst (IsPlace ((pieces.before ++ here) ++ rest_of new) ((pieces.before ++ there) ++ rest_of others_new))
        (ap (λ (n : ℕ). n + k) (sym pieces.place_is))
        (place_of pieces.before here there (rest_of new) (rest_of others_new) k pieces.common
        (omega (arith, less, pieces.size)) (omega (arith, less, pieces.other_size))),
  )

  -- one piece, or both, are shorter than a whole one
  pub ends : (whole : ℕ) → min count limit ≤ k → (count < whole) ⊎ (limit < whole) → (count < whole → IsReadOut new)
      → (limit < whole → IsReadOut others_new) → HaveEnds old new others_old others_new here there
  ends whole many some out others_out =
      let size = pieces.size in
      let other_size = pieces.other_size in
      let common = pieces.common in
      let all : k ≡ min (length here) (length there) =
      omega (arith, size, other_size, many, common.in_one, common.in_other) in
      record {
        common = pieces.before;
        read = pieces.read;
        other_read = pieces.other_read;
        same = subst (λ (n : ℕ). take n here ≡ take n there) all common.same;
        out = λ few. out (elim some [
          | inl short ↦ short
          | inr short ↦ omega (arith, few, size, other_size, short)
        ]);
        other_out = λ few. others_out (elim some [
          | inl short ↦ omega (arith, few, size, other_size, short)
          | inr short ↦ short
        ]);
      }
