use Rattle.std.proofs.Common.{arith, refl, sym, ap, subst, ◌≡◌, ◌∙◌, ◌+◌, ◌-◌, ◌≤◌, ℕ, List, length, Bool, true, false, Option}
use Rattle.std.specs.declared.option.Option.TheVariants.{Some, None}
use Rattle.me_disk.proofs.Holds.{holds_on}
use Rattle.me_disk.proofs.Runs.{ReadsOnly-trans}
use Rattle.container_model.specs.Chunk.{ends, spell}
use Rattle.container_model.specs.Sizes.{inside}
use Rattle.container_model.specs.Windows.{window}
use Rattle.mov_model.specs.Map.{Kid}
use Rattle.qt_atoms.specs.Walk.{InOrder, Stepped, atom_in, level_of}
use Rattle.qt_atoms.specs.declared.header.Parent.{Parent}
use Rattle.qt_text.specs.User.{udta}
use Rattle.mov_file.specs.Carriers.{kids_in}
use Rattle.mov_file.specs.Map.{IsKid, first_that}
use Rattle.mov_file.proofs.Carried.{atom_told, kid_found, kid_none, kid_passed}
use Rattle.mov_file.proofs.carriers.find_user.Goals as goal

pub returns-in-Ok-None-clause-user : goal.returns-in-Ok-None-clause-user
returns-in-Ok-None-clause-user g c = λ b holds.
    let inv = c.kids.invariant in
    let held = holds_on _ _ b inv.reads holds in
    let start = c.args.span.at in
    let at = c.kids.walker.at in
    let end = c.kids.walker.end in
    let step : Stepped inside b at end None = subst (λ (x : Parent). Stepped (level_of x) b at end None) inv.parent (rw c.in-Ok-None.field-0-is at (c.in-Ok-None.ensures.row b held)) in
    let none = kid_none udta.is b start at end ends (window b at end) step (inv.left b holds) in
    subst (λ (e : ℕ). IsKid b (first_that udta.is (kids_in b start e)) None) inv.end (subst (λ (o : Option Kid). IsKid b o None) (sym none) tt)

pub returns-then-is-clause-user : goal.returns-then-is-clause-user
returns-then-is-clause-user g c = λ b holds.
    let inv = c.kids.invariant in
    let held = holds_on _ _ b inv.reads holds in
    let start = c.args.span.at in
    let at = c.kids.walker.at in
    let end = c.kids.walker.end in
    let k = c.in-Ok-Some.atom in
    let order : InOrder at end k = rw c.in-Ok-Some.field-0-is at c.in-Ok-Some.ensures.atom in
    let step : Stepped inside b at end (Some k) = subst (λ (x : Parent). Stepped (level_of x) b at end (Some k)) inv.parent (rw c.in-Ok-Some.field-0-is at (c.in-Ok-Some.ensures.row b held)) in
    let fits : end ≤ length b = omega (arith, inv.end, c.requires.inside b holds) in
    let found = kid_found udta.is b start at end k.next (atom_in b k) step.0 step.1 (sym c.if-is.ensures.is) (inv.left b holds) in
    subst (λ (e : ℕ). IsKid b (first_that udta.is (kids_in b start e)) (Some k)) inv.end (subst (λ (o : Option Kid). IsKid b o (Some k)) (sym found) (atom_told b at end k order fits step.1))

pub kids-preserved : goal.kids-preserved
kids-preserved g c =
    let inv = c.kids.invariant in
    let at = c.kids.walker.at in
    let end = c.kids.walker.end in
    let k = c.in-Ok-Some.atom in
    let order : InOrder at end k = rw c.in-Ok-Some.field-0-is at c.in-Ok-Some.ensures.atom in
    let moved : c.next.new.self.at ≡ k.next = rw c.in-Ok-Some.field-0-is at c.in-Ok-Some.ensures.moved in
    record {
      end = c.next.ensures.end ∙ inv.end;
      parent = c.next.ensures.parent ∙ inv.parent;
      low = omega (arith, moved, inv.low, order.body, order.behind);
      reads = ReadsOnly-trans _ _ _ inv.reads c.next.ensures.reads;
      window = c.next.ensures.window;
      left = λ b holds.
          let held = holds_on _ _ b inv.reads holds in
          let step : Stepped inside b at end (Some k) = subst (λ (x : Parent). Stepped (level_of x) b at end (Some k)) inv.parent (rw c.in-Ok-Some.field-0-is at (c.in-Ok-Some.ensures.row b held)) in
          rw (moved, c.next.ensures.end) (kid_passed udta.is b c.args.span.at at end k.next (atom_in b k) step.0 step.1 (sym c.if-is.ensures.is) (inv.left b holds));
    }
