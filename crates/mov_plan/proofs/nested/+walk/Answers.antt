use Rattle.std.proofs.Common.{arith, sym, ap, subst, ◌≡◌, ◌∙◌, ◌+◌, ℕ, List, length}
use Rattle.std.specs.declared.option.Option.TheVariants.{Some}
use Rattle.me_disk.proofs.Holds.{holds_on}
use Rattle.me_disk.proofs.Runs.{ReadsOnly-trans}
use Rattle.container_model.specs.Chunk.{spell}
use Rattle.container_model.specs.Walk.{Step, along, walk}
use Rattle.container_model.proofs.Windows.{length_slice}
use Rattle.mov_model.specs.Atoms.{Place, format}
use Rattle.qt_atoms.specs.Walk.{InOrder, atom_in, level_of, row}
use Rattle.qt_atoms.specs.declared.header.Parent.{Parent}
use Rattle.qt_atoms.proofs.Windows.{window_stays}
use Rattle.mov_plan.specs.Nested.{IsNext, Meets}
use Rattle.mov_plan.specs.Within.{level_in, place_in}
use Rattle.mov_plan.proofs.Nesting.{along_more, inner_met, left_more, one_met, walk_none, walk_zero}
use Rattle.mov_plan.proofs.nested.+walk.Goals as goal

pub walk_atom-returns-then-depth-eq0-clause-walks : goal.walk_atom-returns-then-depth-eq0-clause-walks
walk_atom-returns-then-depth-eq0-clause-walks g t c = λ b holds place.
    let k = c.args.atom.now in
    let p = place_in c.args.within in
    let order = c.requires.order in
    let long = length_slice b k.body.at k.body.len (omega (arith, c.requires.inside b holds, order.behind, order.last)) in
    subst (λ (ss : List (Step Place)). Meets ss 1 c.args.holders.now.items c.keep.new.holders.items) (sym (walk_zero c.args.depth p k.at (atom_in b k) c.if-depth-eq0.true))
    (one_met p b k c.args.holders.now.items c.keep.new.holders.items long place c.in-Ok.ensures)

pub walk_atom-returns-in-None-clause-walks : goal.walk_atom-returns-in-None-clause-walks
walk_atom-returns-in-None-clause-walks g t c = λ b holds place.
    let k = c.args.atom.now in
    let p = place_in c.args.within in
    let order = c.requires.order in
    let long = length_slice b k.body.at k.body.len (omega (arith, c.requires.inside b holds, order.behind, order.last)) in
    subst (λ (ss : List (Step Place)). Meets ss 1 c.args.holders.now.items c.keep.new.holders.items) (sym (walk_none c.args.depth p k.at (atom_in b k) c.in-None.ensures.place))
    (one_met p b k c.args.holders.now.items c.keep.new.holders.items long place c.in-Ok.ensures)

pub walk_atom-returns-in_ok-count-in-Some-clause-walks : goal.walk_atom-returns-in_ok-count-in-Some-clause-walks
walk_atom-returns-in_ok-count-in-Some-clause-walks g t c = λ b holds place.
    let k = c.args.atom.now in
    let p = place_in c.args.within in
    let inner = c.in-Some.inner in
    let order = c.requires.order in
    let long = length_slice b k.body.at k.body.len (omega (arith, c.requires.inside b holds, order.behind, order.last)) in
    let first_one = one_met p b k c.args.holders.now.items c.keep.new.holders.items long place c.in-Ok.ensures in
    inner_met c.args.depth p (place_in inner) (level_in inner) c.in_ok-count-in-Some.count b k c.args.holders.now.items c.keep.new.holders.items c.walk_atoms.new.holders.items c.if-depth-eq0.false order c.in-Some.ensures.place
    (ap level_of c.in-Some.ensures.plain) first_one (c.in_ok-count-in-Some.ensures.walks b holds)

pub walk_atoms-atoms-preserved : goal.walk_atoms-atoms-preserved
walk_atoms-atoms-preserved g t c =
    let inv = c.atoms.invariant in
    let at = c.atoms.walker.at in
    let end = c.atoms.walker.end in
    let p = place_in c.args.within in
    let s = level_in c.args.within in
    let k = c.in-Ok-Some.atom in
    let order : InOrder at end k = rw c.in-Ok-Some.field-0-is at c.in-Ok-Some.ensures.atom in
    let moved : c.next_atom.new.walker.at ≡ k.next = rw c.in-Ok-Some.field-0-is at c.in-Ok-Some.ensures.moved in
    let few = c.in-Ok.ensures.few in
    record {
      end = c.next_atom.ensures.end ∙ inv.end;
      parent = c.next_atom.ensures.parent ∙ inv.parent;
      few = omega (arith, moved, inv.few, few, order.begins);
      reads = ReadsOnly-trans _ _ _ (ReadsOnly-trans _ _ _ inv.reads c.next_atom.ensures.reads) c.walk_atom.ensures.reads;
      window = window_stays (g.D.Depot.disk c.next_atom.new.depot) (g.D.Depot.disk c.walk_atom.new.depot) c.next_atom.new.walker.window c.walk_atom.ensures.reads c.next_atom.ensures.window;
      left = λ b holds.
          let held = holds_on _ _ b inv.reads holds in
          let later = holds_on _ _ b c.next_atom.ensures.reads held in
          let this = atom_in b k in
          let next : IsNext s b at end (Some k) = subst (λ (x : Parent). IsNext (level_of x) b at end (Some k)) inv.parent (rw c.in-Ok-Some.field-0-is at (c.in-Ok-Some.ensures.next b held)) in
          let place : k.at + length (spell this) ≡ k.next = ap (λ (i : ℕ). i + length (spell this)) order.begins ∙ next.1 in
          let deep = walk format c.args.depth p in
          let met : Meets (deep at this) c.in-Ok.more c.atoms.holders.items c.walk_atom.new.holders.items =
          subst (λ (i : ℕ). Meets (deep i this) c.in-Ok.more c.atoms.holders.items c.walk_atom.new.holders.items) order.begins (c.in-Ok.ensures.walks b later place)
          in
          rw (moved, c.next_atom.ensures.end) (left_more (along deep c.args.span.at (row s b c.args.span.at (c.args.span.at + c.args.span.len)).chunks) (along deep at (row s b at end).chunks) (deep at this) (along deep k.next (row s b k.next end).chunks) c.atoms.count c.in-Ok.more c.args.holders.now.items c.atoms.holders.items c.walk_atom.new.holders.items (inv.left b holds)
          (along_more deep s b at end k next) met);
    }
