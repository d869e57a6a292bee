-- The search of the numbers finds the first that is out of its range.
use Rattle.std.proofs.Common.{rules, tests}
use Rattle.std.proofs.lemmas.Iterator.{YieldsList-from_slice}
use Rattle.std.proofs.lemmas.Iterator.Search.{find_from_yields_List}
use Rattle.paste.specs.Ranges.{is_out}
use Rattle.paste.proofs.ranges.first_out.Goals as goal

pub returns : goal.returns
returns c =
    let found = find_from_yields_List is_out _ _ c.find.result c.find.ensures.ran (YieldsList-from_slice c.args.numbers.now cc) (λ x b q k. search (rules, tests)) in
    cc
