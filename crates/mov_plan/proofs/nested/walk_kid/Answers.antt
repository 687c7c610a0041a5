use Rattle.std.proofs.Common.{arith, sym, ap, subst, ◌≡◌, ◌∙◌, ◌+◌, Bool, true}
use Rattle.std.specs.Prelude.{◌&&◌, codes, not}
use Rattle.std.specs.Str.{bytes_eq}
use Rattle.std.proofs.lemmas.Bool.{and_parts}
use Rattle.container_model.proofs.Windows.{length_slice}
use Rattle.mov_model.specs.Reading.{kid_steps}
use Rattle.qt_atoms.specs.Walk.{atom_in}
use Rattle.mov_plan.specs.Nested.{Meets}
use Rattle.mov_plan.proofs.Nesting.{user_met}
use Rattle.mov_plan.proofs.nested.walk_kid.Goals as goal

pub returns-then-has_user-is-clause-walks : goal.returns-then-has_user-is-clause-walks
returns-then-has_user-is-clause-walks g c = λ b holds place.
    let k = c.args.atom.now in
    let n = c.in_ok-count.count in
    let old = c.args.holders.now.items in
    let new = c.walk_atoms.new.holders.items in
    let order = c.requires.order in
    let is = bytes_eq k.kind.0 (codes "udta") in
    let first : (not c.args.has_user && is) ≡ true = ap (λ (t : Bool). not c.args.has_user && t) (sym c.is.ensures.is) ∙ c.if-has_user-is.true in
    let user = (and_parts (not c.args.has_user) is first).1 in
    let long = length_slice b k.body.at k.body.len (omega (arith, c.requires.inside b holds, order.behind, order.last)) in
    subst (λ (t : Bool). Meets (kid_steps t k.at (atom_in b k)) (1 + n) old new) (sym first)
    (user_met b k n old new order long place user (c.in_ok-count.ensures.walks b holds))
