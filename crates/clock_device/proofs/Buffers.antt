-- What a buffer and its sink have of a text, put after put.
use Rattle.std.proofs.Common.{◌≡◌, ◌++◌, ◌||◌, Bool, true, false, ℕ, List, [], Option, Some, None, Result, Ok, Err}
use Rattle.std.proofs.Common.{◌+◌, ◌∷◌, arith, append-nil, append_assoc, drop, length, take, ap, refl, subst, sym, ◌∙◌}
use Rattle.std.specs.Prelude.{is_err}
use Rattle.std.proofs.lemmas.List.{drop_all, take_all}
use Rattle.clock_device.specs.Reports.{SinkReport}
use Rattle.clock_device.specs.Streams.{HasWritten, HasWrittenFront, WritesText}
use Rattle.clock_device.proofs.Streams.{front_beyond, front_written, take_further, written_twice}
use Rattle.clock_device.specs.Buffers.{BufferFields, IsCollected, IsPut, IsPutIf, Output, Puts}
use Rattle.clock_device.specs.Buffers.{output}
use Rattle.clock_device.specs.inside.Ways.{IsOnWay}

-- more bytes wait
pub more_wait : (has_failed : Bool) (start now : SinkReport) (waiting text more : List ℕ)
    → IsPutIf has_failed start now waiting text → IsPutIf has_failed start now (waiting ++ more) (text ++ more)
more_wait false start now waiting text more is = record {
  written = is.written;
  bytes = is.bytes;
  whole = sym (append_assoc is.written waiting more) ∙ ap (λ (all : List ℕ). all ++ more) is.whole;
  unfailed = is.unfailed;
}
more_wait true start now waiting text more is = record {
  bytes = front_written start.taken now.taken text more is.bytes;
  failed = is.failed;
}

or_false : (b : Bool) → (b || false) ≡ b
or_false true = refl
or_false false = refl

or_true : (b : Bool) → (b || true) ≡ true
or_true true = refl
or_true false = refl

-- the bytes that waited are written
pub written_out : {U E : Type 0} (start old new : SinkReport) (waiting text : List ℕ) (result : Result U E)
    → IsCollected start old waiting text → WritesText old.taken new.taken waiting result
    → new.has_failed ≡ (old.has_failed || is_err result) → IsPutIf (is_err result) start new [] text
written_out start old new waiting text (Ok done) is writes failed = record {
  written = text;
  bytes = subst (HasWritten start.taken new.taken) is.whole
      (written_twice start.taken old.taken new.taken is.written waiting is.bytes writes);
  whole = append-nil text;
  unfailed = failed ∙ (or_false old.has_failed ∙ is.unfailed);
}
written_out start old new waiting text (Err cause) is writes failed = record {
  bytes = subst (HasWrittenFront start.taken new.taken) is.whole
      (front_beyond start.taken old.taken new.taken is.written waiting is.bytes writes);
  failed = failed ∙ or_true old.has_failed;
}

-- two puts, one after the other
pub put_twice : (old mid now : Output) (a b : List ℕ) → Puts old mid a → Puts mid now b → Puts old now (a ++ b)
put_twice old mid now a b first second = λ start text put. subst (IsPut start now) (append_assoc text a b)
    (second start (text ++ a) (first start text put))

taken_whole : (a b : List ℕ) → take (length a) (a ++ b) ≡ a
taken_whole [] b = refl
taken_whole (x ∷ a) b = ap (λ (rest : List ℕ). x ∷ rest) (taken_whole a b)

-- bytes that were copied after those that wait
pub copied : (old new bytes : List ℕ) (used end : ℕ) → end ≡ used + length bytes → take used new ≡ take used old
    → drop used new ≡ bytes ++ drop end old → take end new ≡ take used old ++ bytes
copied old new bytes used end is ahead behind =
    ap (λ (n : ℕ). take n new) is ∙ (sym (take_further new used (length bytes))
    ∙ (ap (λ (first : List ℕ). first ++ take (length bytes) (drop used new)) ahead
    ∙ ap (λ (rest : List ℕ). take used old ++ rest) (ap (λ (rest : List ℕ). take (length bytes) rest) behind
    ∙ taken_whole bytes (drop end old))))

-- the items of a list after a slice of all of them was changed
lent : (old new : List ℕ) (len : ℕ) → len ≡ length old → length new ≡ length old
    → take len (new ++ drop (length new) old) ≡ new
lent old new len is same =
    ap (λ (rest : List ℕ). take len (new ++ rest)) (drop_all (length new) old (omega (arith, same)))
    ∙ (ap (λ (all : List ℕ). take len all) (append-nil new) ∙ take_all len new (omega (arith, is, same)))

-- the bytes that wait, once more bytes were copied after them
pub now_wait : (old new bytes : List ℕ) (len used end : ℕ) → len ≡ length old → length new ≡ length old
    → take end new ≡ take used old ++ bytes
    → take end (take len (new ++ drop (length new) old)) ≡ take used old ++ bytes
now_wait old new bytes len used end is same added =
    ap (λ (all : List ℕ). take end all) (lent old new len is same) ∙ added

-- ---- a text that is put piece by piece

pub way_begins : (now : Output) (whole : List ℕ) → IsOnWay now now whole whole
way_begins now whole = λ start text put. record { done = text; put = put; left = refl }

-- the next piece of the rest is put
pub way_on : (old mid now : Output) (piece all rest whole : List ℕ) → Puts mid now piece → all ≡ piece ++ rest
    → IsOnWay old mid all whole → IsOnWay old now rest whole
way_on old mid now piece all rest whole puts is way = λ start text put.
    let due = way start text put in record {
      done = due.done ++ piece;
      put = puts start due.done due.put;
      left = append_assoc due.done piece rest ∙ (ap (λ (left : List ℕ). due.done ++ left) (sym is) ∙ due.left);
    }

-- nothing is left
pub way_ends : (old now : Output) (rest whole : List ℕ) → rest ≡ [] → IsOnWay old now rest whole
    → Puts old now whole
way_ends old now rest whole none way = λ start text put.
    let due = way start text put in
    subst (IsPut start now) (sym (append-nil due.done) ∙ (ap (λ (left : List ℕ). due.done ++ left) (sym none)
    ∙ due.left)) due.put

nothing_written : (taken : Option (List ℕ)) → HasWritten taken taken []
nothing_written None = tt
nothing_written (Some bytes) = sym (append-nil bytes)

-- nothing was put yet
pub none_put : (report : SinkReport) → IsPut report (output report (record { waiting = []; has_failed = false })) []
none_put report = record {
  written = [];
  bytes = nothing_written report.taken;
  whole = refl;
  unfailed = refl;
}

pub begun : (report sink : SinkReport) (buffer : BufferFields) → sink ≡ report
    → buffer ≡ record { waiting = []; has_failed = false } → IsPut report (output sink buffer) []
begun report sink buffer same new = subst (λ (now : SinkReport). IsPut report (output now buffer) []) (sym same)
    (subst (λ (now : BufferFields). IsPut report (output report now) []) (sym new) (none_put report))
