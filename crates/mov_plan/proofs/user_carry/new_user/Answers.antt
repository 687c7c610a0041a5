use Rattle.std.proofs.Common.{◌≡◌, ◌<◌, ◌^◌, ℕ, [], length, arith, sym, subst}
use Rattle.std.specs.declared.result.Result.TheVariants.{Err}
use Rattle.mov_plan.specs.Carriers.{IsFresh}
use Rattle.mov_plan.specs.declared.bodies.CarryFault.TheVariants.{TooLarge}
use Rattle.mov_model.specs.Carried.{fresh}
use Rattle.qt_text.specs.User.{udta}
use Rattle.mov_plan.specs.Users.{changes_of, edited_body}
use Rattle.mov_plan.proofs.NewAtoms.{can_set, fresh_is, fresh_large, fresh_now, fresh_ok, items, no_fresh}
use Rattle.mov_plan.proofs.user_carry.new_user.Goals as goal

pub returns-in-Err-TooLarge-clause-made : goal.returns-in-Err-TooLarge-clause-made
returns-in-Err-TooLarge-clause-made c =
    let e = changes_of c.args.changes.now in
    let size = c.in-Err-TooLarge.size in
    let told : (size ≡ length (edited_body e [])) × (2 ^ 24 < size) = rw c.in-Err-TooLarge.field-0-is at c.in-Err-TooLarge.ensures in
    subst (λ (n : ℕ). IsFresh (fresh udta (items e)) (Err (TooLarge n))) (sym c.in-Err-TooLarge.size-is) (fresh_large e size told.0 told.1)

pub returns-then-user-eq0-clause-made : goal.returns-then-user-eq0-clause-made
returns-then-user-eq0-clause-made c = no_fresh (changes_of c.args.changes.now) c.in-Ok.user c.in-Ok.ensures.1 (omega (arith, c.if-user-eq0.true))

pub returns-clause-made : goal.returns-clause-made
returns-clause-made c =
    let e = changes_of c.args.changes.now in
    let u = c.in-Ok.user in
    let edited = c.in-Ok.ensures in
    let atom = c.in-Ok-user_atom in
    fresh_ok (fresh udta (items e)) (udta.fresh (items e)) atom.now (fresh_is e u edited.1 (λ none. absurd (omega (arith, c.if-user-eq0.false, none))))
    (fresh_now e (can_set c.args.changes.now c.requires.can) u edited.0 edited.1 edited.2 atom.now atom.ensures.bytes atom.ensures.parts)
