use Rattle.std.proofs.Common.{◌∙◌, subst, sym, ℕ}
use Rattle.wave_file.specs.Map.{Ascend}
use Rattle.edit_planner.proofs.AviLoops.{ascend_more, begins_there}
use Rattle.edit_planner.proofs.tops.Tops.take.Goals as goal

pub returns-then-begins-clause-ascend : goal.returns-then-begins-clause-ascend
returns-then-begins-clause-ascend c = λ h.
    let old = c.args.self.now in
    let new = c.push.new.self in
    let here = begins_there old.at c.args.part.now (sym c.begins.ensures ∙ c.if-begins.true) in
    subst (λ (n : ℕ). Ascend 12 new.parts.items n) (sym c.in_ok-push.ensures.at)
    (ascend_more 12 old.at old.parts.items new.parts.items c.args.part.now c.args.end h here c.in_ok-push.ensures.inside c.in_ok-push.ensures.tops)
