use Rattle.std.proofs.Common.{◌≡◌, ◌<◌, ◌+◌, sym, ap, ◌∙◌, true, false, length, get_or, [], rules, ◌&&◌, drop}
use Rattle.std.specs.List.{list_all}
use Rattle.std.specs.Str.{is_utf8}
use Rattle.csv.specs.Records.{fields_of}
use Rattle.core_csv.proofs.Cells.{all_step}
use Rattle.core_csv.proofs.row.are_texts.Goals as goal

pub returns-then-not-is_text : goal.returns-then-not-is_text
returns-then-not-is_text c =
    let cells = fields_of c.args.row.now in
    let inside : c.loop-at.at < length cells = search rules in
    let bad : is_utf8 (get_or cells c.loop-at.at []) ≡ false = search rules in
    let step = all_step is_utf8 cells c.loop-at.at inside in
    sym (ap (λ t. t && list_all is_utf8 (drop (c.loop-at.at + 1) cells)) bad) ∙ sym step ∙ c.loop-at.invariant

pub loop-at-preserved : goal.loop-at-preserved
loop-at-preserved c =
    let cells = fields_of c.args.row.now in
    let inside : c.loop-at.at < length cells = search rules in
    let good : is_utf8 (get_or cells c.loop-at.at []) ≡ true = search rules in
    let step = all_step is_utf8 cells c.loop-at.at inside in
    sym (ap (λ t. t && list_all is_utf8 (drop (c.loop-at.at + 1) cells)) good) ∙ sym step ∙ c.loop-at.invariant
