use Rattle.std.proofs.Common.{◌≡◌, ◌∙◌, ℕ, eqb, length, ap, arith}
use Rattle.me_disk.proofs.Holds.{holds_on}
use Rattle.avi_names.specs.Names.{chunks_of}
use Rattle.avi_plan.proofs.Placing.{none_there, some_there}
use Rattle.avi_plan.proofs.strl.new_place.Goals as goal

pub returns-then-not-is_empty-clause-place : goal.returns-then-not-is_empty-clause-place
returns-then-not-is_empty-clause-place g c b ns held spelled =
    let long : c.in-Ok.names.len ≡ length c.in-Ok.names.items = omega (arith, c.in-Ok.names.ok.0, c.in-Ok.names.ok.1) in
    some_there ns (chunks_of b c.args.strl).chunks c.args.strl.at c.in-Ok.names.items (c.in-Ok.ensures.names b held) (c.if-not-is_empty.ensures ∙ ap (λ (n : ℕ). eqb n 0) long)

pub returns-clause-place : goal.returns-clause-place
returns-clause-place g c b ns held spelled =
    let long : c.in-Ok.names.len ≡ length c.in-Ok.names.items = omega (arith, c.in-Ok.names.ok.0, c.in-Ok.names.ok.1) in
    let later = holds_on (g.D.Depot.disk c.args.depot.now) (g.D.Depot.disk c.strl_names.new.depot) b c.in-Ok.ensures.reads held in
    none_there ns (chunks_of b c.args.strl).chunks c.args.strl.at c.in-Ok-strl_new_place.place c.in-Ok.names.items c.args.new.now.chunks spelled.chunks (λ e. c.if-new-eq0.false e) (c.in-Ok.ensures.names b held) (c.if-not-is_empty.ensures ∙ ap (λ (n : ℕ). eqb n 0) long)
    (c.in-Ok-strl_new_place.ensures.place b later)
