use Rattle.clock_json.proofs.DigitLaws.{all_digits, first_other}
use Rattle.clock_json.proofs.digits.digits_ahead.Goals as goal

pub returns-then-others-eq0-clause-digits : goal.returns-then-others-eq0-clause-digits
returns-then-others-eq0-clause-digits c =
    all_digits c.args.bytes.now c.args.at c.requires c.type_inv.bytes c.if-others-eq0.true

pub returns-else-others-eq0-clause-most : goal.returns-else-others-eq0-clause-most
returns-else-others-eq0-clause-most c =
    (first_other c.args.bytes.now c.args.at c.requires c.type_inv.bytes c.if-others-eq0.false).0

pub returns-else-others-eq0-clause-digits : goal.returns-else-others-eq0-clause-digits
returns-else-others-eq0-clause-digits c =
    (first_other c.args.bytes.now c.args.at c.requires c.type_inv.bytes c.if-others-eq0.false).1
