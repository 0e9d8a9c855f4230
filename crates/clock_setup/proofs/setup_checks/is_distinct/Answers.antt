-- The set contains each text of the list, and has the list's length exactly if all texts are distinct.
use Rattle.std.proofs.Common.{length, nat_eq, ap, ◌∙◌, subst}
use Rattle.std.proofs.lemmas.Iterator.{YieldsList-from_slice}
use Rattle.std.proofs.lemmas.Iterator.Adapters.{items_from_extend}
use Rattle.std.proofs.lemmas.Iterator.Consumers.{YieldsList-from_copied}
use Rattle.std.specs.HashSet.{InsertsAll}
use Rattle.std.specs.Result.{OnOk}
use Rattle.clock_setup.proofs.NameLaws.{same_text, set_of_empty, set_length_is}
use Rattle.clock_setup.proofs.setup_checks.is_distinct.Goals as goal

pub returns : goal.returns
returns c =
    let texts = c.args.texts.now in
    let before = c.in_ok-seen.seen in
    let seen = c.extend.new.self in
    let inserted =
    items_from_extend c.extend.result c.extend.ensures.ran (YieldsList-from_copied (YieldsList-from_slice texts cc)) in
    ap (λ n. nat_eq n (length texts)) c.len.ensures.len
    ∙ set_length_is texts seen (set_of_empty texts before seen c.in_ok-seen.ensures.empty
    (subst (λ r. OnOk r (InsertsAll same_text before texts seen)) c.in_ok-extend.was inserted))
