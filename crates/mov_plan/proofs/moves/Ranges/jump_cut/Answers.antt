use Rattle.std.proofs.Common.{rules, ◌≡◌, ◌∙◌, ◌+◌, ◌++◌, ℕ, ap, length, sym}
use Rattle.carrier_model.specs.Gaps.{between}
use Rattle.unit_plan.specs.Cuts.{cut_in}
use Rattle.mov_plan.proofs.Moved.{cut_long}
use Rattle.mov_plan.proofs.Ranged.{one_range}
use Rattle.mov_plan.proofs.moves.Ranges.jump_cut.Goals as goal

pub returns-clause-held : goal.returns-clause-held
returns-clause-held c = λ b rest end whole kept.
    let k = c.args.cut.now in
    let old = c.args.self.now in
    let new = c.jump.new.self in
    let long : c.in-Some.now ≡ length k.bytes + k.keep = search rules in
    ap (λ (p : ℕ). new.held.items ++ between p new.to rest end) c.in_ok-jump.ensures.at
    ∙ one_range (cut_in b k) old.at old.to new.to c.in-Some.now end old.held.items new.held.items rest c.in_ok-jump.ensures.held c.in_ok-jump.ensures.to (long ∙ sym (cut_long b end k whole kept))
