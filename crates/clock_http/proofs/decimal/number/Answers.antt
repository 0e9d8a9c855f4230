-- Digits are UTF-8, so only the parse can fail, and it fails from 2^64 on.
use Rattle.clock_http.proofs.DecimalLaws.{digits_text, number_read}
use Rattle.clock_http.proofs.ResultLaws.{fault_reported, value_reported}
use Rattle.clock_http.proofs.decimal.number.Goals as goal

pub returns-in_err-ok : goal.returns-in_err-ok
returns-in_err-ok c = absurd ((fault_reported c.from_utf8.result _ _ c.in_err-ok.ensures.value
    c.from_utf8.ensures.cases).1.0 (digits_text c.args.digits.now c.requires))

pub returns : goal.returns
returns c =
    let text = value_reported c.from_utf8.result _ _ c.in_ok-ok.ensures.value c.from_utf8.ensures.cases in
    number_read c.args.digits.now c.requires c.in_ok-ok.field-0.now c.parse.result c.ok-2.result text.0
    c.parse.ensures.value.0 c.ok-2.ensures.value
