use Rattle.std.proofs.Common.{◌∙◌, ◌+◌, ◌&&◌, Bool, sym, ap, drop}
use Rattle.field_model.specs.History.{pieces, are_lines}
use Rattle.fadgi_rules.proofs.Pieces.{lines_next, lines_end, place_after}
use Rattle.fadgi_rules.proofs.history.is_history.Goals as goal

pub returns-then-end-rest : goal.returns-then-end-rest
returns-then-end-rest c =
    sym (lines_end c.args.text.now c.lines.at c.place_of-end.result c.lines-test.true c.place_of-end.ensures.place c.if-end-rest.true) ∙ c.lines.invariant.left

pub returns-then-not-is_line : goal.returns-then-not-is_line
returns-then-not-is_line c =
    let text = c.args.text.now in
    let end = c.place_of-end.result in
    let next = lines_next text c.lines.at end c.place_of-end.ensures.place c.place_of-end.ensures.inside c.if-end-rest.false in
    sym (next ∙ ap (λ (t : Bool). t && are_lines (pieces 10 (drop (c.lines.at + (end + 1)) text))) (sym c.is_line.ensures ∙ c.if-not-is_line.true)) ∙ c.lines.invariant.left

pub lines-preserved : goal.lines-preserved
lines-preserved c =
    let text = c.args.text.now in
    let end = c.place_of-end.result in
    let next = lines_next text c.lines.at end c.place_of-end.ensures.place c.place_of-end.ensures.inside c.if-end-rest.false in
    record {
      inside = place_after text c.lines.at end c.lines.invariant.inside c.place_of-end.ensures.inside c.if-end-rest.false;
      left = sym (next ∙ ap (λ (t : Bool). t && are_lines (pieces 10 (drop (c.lines.at + (end + 1)) text))) (sym c.is_line.ensures ∙ c.if-not-is_line.false)) ∙ c.lines.invariant.left;
    }
