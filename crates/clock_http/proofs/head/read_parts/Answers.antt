-- If the parser finds no head, there is none. If it finds one, its spans cover the parts.
use Rattle.std.proofs.Common.{rules, ◌≡◌, ℕ, List, Some, Result, Ok, Err, length, refl, sym, ap, subst, ◌∙◌}
use Rattle.httparse.specs.declared.Error.{Error}
use Rattle.httparse.specs.declared.Status.{Status}
use Rattle.httparse.specs.declared.spans.RequestSpans.{RequestSpans}
use Rattle.httparse.specs.Grammar.{RequestHead}
use Rattle.httparse.specs.Outcome.{IfComplete, IsCompleteAnd}
use Rattle.httparse.specs.Spans.{IsRequestAt, IsRequestOf, span_bytes}
use Rattle.std.specs.Result.{IsErrAnd}
use Rattle.clock_api.specs.declared.code.Code.{Code}
use Rattle.clock_http.specs.declared.head.EndedHead.{EndedHead}
use Rattle.clock_http.specs.Heads.{head_of}
use Rattle.clock_http.specs.inside.HeadFields.{shown_read}
use Rattle.clock_http.specs.inside.HeadParts.{head_with_length}
use Rattle.clock_http.proofs.TextLaws.{no_head, no_length, not_parsed, parsed, read_is}
use Rattle.clock_http.proofs.head.read_parts.Goals as goal

pub returns-in_default-clause-shown : goal.returns-in_default-clause-shown
returns-in_default-clause-shown c =
    let is = c.in-Ok-Complete.is ∙ ap Ok c.in-Ok-Complete.field-0-is in
    no_head c.args.bytes.now c.requires.few c.requires.tight
    (not_parsed _ _ _ _ c.requires.room c.requires.tight c.parse_request.ensures.found (λ h. c.if-found-bytes.false
    (subst (λ (r : Result (Status RequestSpans) Error). IsCompleteAnd r (λ r. r.len ≡ length c.args.bytes.now)) is h)))

pub returns-in_default-2-clause-shown : goal.returns-in_default-2-clause-shown
returns-in_default-2-clause-shown c =
    no_head c.args.bytes.now c.requires.few c.requires.tight
    (not_parsed _ _ _ _ c.requires.room c.requires.tight c.parse_request.ensures.found (search rules))

pub returns-in_default-3-clause-shown : goal.returns-in_default-3-clause-shown
returns-in_default-3-clause-shown c = no_head c.args.bytes.now c.requires.few c.requires.tight (not_parsed _ _ _ _
    c.requires.room c.requires.tight c.parse_request.ensures.found (subst (λ (r : Result (Status RequestSpans) Error).
    IsCompleteAnd r (λ r. r.len ≡ length c.args.bytes.now)) c.in_default.is))

pub returns-clause-shown : goal.returns-clause-shown
returns-clause-shown c =
    let bytes = c.args.bytes.now in
    let found = c.in-Ok-Complete.found in
    let is = c.in-Ok-Complete.is ∙ ap Ok c.in-Ok-Complete.field-0-is in
    let got : (h : RequestHead) × (head_of bytes ≡ Some h) × IsRequestAt bytes c.parse_request.new.headers found h =
    parsed _ _ _ c.requires.tight c.if-found-bytes.true (subst (λ (r : Result (Status RequestSpans) Error). IfComplete r
    (IsRequestOf bytes c.parse_request.new.headers)) is c.parse_request.ensures.complete) in
    read_is bytes _ _ got.0 (span_bytes bytes found.method) (span_bytes bytes found.path) _ _ _
    c.requires.few c.requires.tight got.1 got.2
    refl refl c.path_of.ensures.shown (c.token.ensures.shown _ c.fields_of-fields.ensures)
    (sym c.in_ok-body.was ∙ c.body_length.ensures _ c.fields_of-fields.ensures)

-- an error that is passed on
handed_on : (bytes : List ℕ) (result : Result EndedHead Code) (fault : Code) → IsErrAnd result (λ reported. reported
    ≡ fault) → Err fault ≡ head_with_length bytes → shown_read bytes result ≡ head_with_length bytes
handed_on bytes (Ok head) fault reported is = absurd reported
handed_on bytes (Err same) fault reported is = ap Err reported ∙ is

pub returns-in_err-body-clause-shown : goal.returns-in_err-body-clause-shown
returns-in_err-body-clause-shown c =
    let bytes = c.args.bytes.now in
    let found = c.in-Ok-Complete.found in
    let is = c.in-Ok-Complete.is ∙ ap Ok c.in-Ok-Complete.field-0-is in
    let got : (h : RequestHead) × (head_of bytes ≡ Some h) × IsRequestAt bytes c.parse_request.new.headers found h =
    parsed _ _ _ c.requires.tight c.if-found-bytes.true (subst (λ (r : Result (Status RequestSpans) Error). IfComplete r
    (IsRequestOf bytes c.parse_request.new.headers)) is c.parse_request.ensures.complete) in
    handed_on bytes c.from_residual.result _ c.from_residual.ensures.1 (no_length bytes _ _ got.0 _ c.requires.few
    c.requires.tight got.1 got.2 (c.in_err-body.ensures _ c.fields_of-fields.ensures))
