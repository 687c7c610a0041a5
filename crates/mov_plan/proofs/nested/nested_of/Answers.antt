use Rattle.std.proofs.Common.{sym, subst, ◌+◌, drop, Bool}
use Rattle.std.specs.Prelude.{◌||◌}
use Rattle.me_disk.proofs.Holds.{holds_on}
use Rattle.me_disk.proofs.Runs.{ReadsOnly-trans}
use Rattle.mov_plan.proofs.Nesting.{KidsLeft, kids_next, stand_next}
use Rattle.mov_plan.proofs.nested.nested_of.Goals as goal

pub atoms-preserved : goal.atoms-preserved
atoms-preserved g c =
    let inv = c.atoms.invariant in
    let i = c.atoms.atom-index in
    let ks = c.args.atoms.now in
    record {
      stand = stand_next _ ks i c.atoms-test.true inv.stand;
      reads = ReadsOnly-trans _ _ _ inv.reads c.walk_kid.ensures.reads;
      left = λ b at all holds are.
          let held = holds_on _ _ b inv.reads holds in
          subst (λ (t : Bool). KidsLeft b at all (drop (i + 1) ks) (c.atoms.has_user || t) c.push.new.self.items c.walk_kid.new.holders.items) (sym c.is-has_user.ensures.is)
          (kids_next b at all ks i _ c.atoms.has_user c.atoms.counts.items c.push.new.self.items c.in-Ok.count c.atoms.holders.items c.walk_kid.new.holders.items c.atoms-test.true (inv.left b at all holds are) c.in-Ok-push.ensures.items
          (c.in-Ok.ensures.walks b held));
    }
