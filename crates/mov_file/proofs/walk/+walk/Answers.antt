use Rattle.std.proofs.Common.{arith, refl, sym, ap, subst, ◌≡◌, ◌∙◌, ◌+◌, ◌-◌, ◌≤◌, ◌∷◌, ℕ, length, rules}
use Rattle.std.specs.declared.option.Option.TheVariants.{Some, None}
use Rattle.std.specs.declared.result.Result.TheVariants.{Err}
use Rattle.me_disk.proofs.Holds.{holds_on}
use Rattle.me_disk.proofs.Runs.{ReadsOnly-trans}
use Rattle.container_model.specs.Chunk.{bad_header, ends, passes, spell}
use Rattle.container_model.specs.Walk.{chunk_at, end_at}
use Rattle.container_model.specs.Windows.{window}
use Rattle.container_model.proofs.Windows.{length-window, length_slice}
use Rattle.part_tree.specs.Parts.{rest_parts}
use Rattle.qt_atoms.specs.Walk.{InOrder, Stepped, StuckThere, atom_in, level_of}
use Rattle.qt_atoms.specs.declared.header.Parent.{Parent}
use Rattle.qt_atoms.specs.declared.walker.AtomFault.TheVariants.{SizeSmall, Truncated}
use Rattle.qt_atoms.proofs.Windows.{window_stays}
use Rattle.part_tree.specs.declared.why.ReadFault.TheVariants as fault
use Rattle.part_tree.specs.declared.why.Why.TheVariants as why
use Rattle.mov_file.specs.Holder.{level_in, place_of}
use Rattle.mov_file.specs.Walked.{Remembers, Told, Walked, Walks, atom_told, both, deep_told, end_told, told_in}
use Rattle.mov_file.proofs.Walks.{all_left, both_none, cut_refused, deep_plain, deep_split, end_refused, inner_told, inside_told, left_fails, left_more, left_none, none_deep, none_inner, none_told, small_refused, some_inner, stands, step_walked, told_more, told_stop, walks_both}
use Rattle.mov_file.specs.Sound.{LiesIn}
use Rattle.mov_file.proofs.Sound.{lies_inner, lies_none, lies_then, on_ok, opened_inner}
use Rattle.mov_file.proofs.walk.+walk.Goals as goal

pub walk_atom-returns-in-Err-clause-walks : goal.walk_atom-returns-in-Err-clause-walks
walk_atom-returns-in-Err-clause-walks g t c = λ b before holds place knows.
    let k = c.args.atom.now in
    let p = place_of c.args.holder in
    let this = atom_in b k in
    let seen = c.args.reading.now.has_user in
    let whole = deep_told seen c.args.depth p k.at this in
    left_fails before whole whole (atom_told seen p k.at this) (inside_told c.args.depth p k.at this) c.args.reading.now c.args.reading.now c.take_atom.new.reading c.in-Err.fault
    (all_left before whole c.args.reading.now knows) (deep_split seen c.args.depth p k.at this) (c.in-Err.ensures.took b before holds place knows)

pub walk_atom-returns-then-depth-eq0-clause-walks : goal.walk_atom-returns-then-depth-eq0-clause-walks
walk_atom-returns-then-depth-eq0-clause-walks g t c = λ b before holds place knows.
    let k = c.args.atom.now in
    let p = place_of c.args.holder in
    let this = atom_in b k in
    let seen = c.args.reading.now.has_user in
    let is : deep_told seen c.args.depth p k.at this ≡ atom_told seen p k.at this = deep_split seen c.args.depth p k.at this ∙ ap (both (atom_told seen p k.at this)) (none_deep c.args.depth p k.at this c.if-depth-eq0.true) ∙ both_none (atom_told seen p k.at this) in
    subst (λ (t : Told). Walked before t c.args.reading.now c.take_atom.new.reading) (sym is) (c.in-Ok.ensures.took b before holds place knows)

pub walk_atom-returns-in-None-clause-walks : goal.walk_atom-returns-in-None-clause-walks
walk_atom-returns-in-None-clause-walks g t c = λ b before holds place knows.
    let k = c.args.atom.now in
    let p = place_of c.args.holder in
    let this = atom_in b k in
    let seen = c.args.reading.now.has_user in
    let is : deep_told seen c.args.depth p k.at this ≡ atom_told seen p k.at this = deep_split seen c.args.depth p k.at this ∙ ap (both (atom_told seen p k.at this)) (none_inner c.args.depth p k.at this c.in-None.ensures) ∙ both_none (atom_told seen p k.at this) in
    subst (λ (t : Told). Walked before t c.args.reading.now c.take_atom.new.reading) (sym is) (c.in-Ok.ensures.took b before holds place knows)

pub walk_atom-returns-in-Some-clause-walks : goal.walk_atom-returns-in-Some-clause-walks
walk_atom-returns-in-Some-clause-walks g t c = λ b before holds place knows.
    let k = c.args.atom.now in
    let p = place_of c.args.holder in
    let q = place_of c.in-Some.inner in
    let this = atom_in b k in
    let d = c.args.depth in
    let len = length_slice b k.body.at k.body.len (omega (arith, c.requires.inside b holds, c.requires.order.behind, c.requires.order.last)) in
    let st = stands b k k.next c.requires.order len place in
    let seen = c.args.reading.now.has_user in
    let more = told_in (d - 1) q (level_in c.in-Some.inner) b k.body.at (k.body.at + k.body.len) in
    let inner : inside_told d p k.at this ≡ more = some_inner d p c.in-Some.inner this b k c.if-depth-eq0.false c.in-Some.ensures st.body refl in
    let is : deep_told seen d p k.at this ≡ both (atom_told seen p k.at this) more = deep_split seen d p k.at this ∙ ap (both (atom_told seen p k.at this)) inner in
    let first_one : Walked before (atom_told seen p k.at this) c.args.reading.now c.take_atom.new.reading = c.in-Ok.ensures.took b before holds place knows in
    let held = holds_on _ _ b c.take_atom.ensures.reads holds in
    subst (λ (t : Told). Walks before t c.args.reading.now c.walk_atoms.new.reading c.walk_atoms.result) (sym is)
    (walks_both before (atom_told seen p k.at this) more c.args.reading.now c.take_atom.new.reading c.walk_atoms.new.reading c.walk_atoms.result first_one
    (c.walk_atoms.ensures.walks b (chunk_at p k.at this ∷ before) held first_one.knows))

pub walk_atoms-returns-in-Err-SizeSmall-clause-walks : goal.walk_atoms-returns-in-Err-SizeSmall-clause-walks
walk_atoms-returns-in-Err-SizeSmall-clause-walks g t c = λ b before holds knows.
    let inv = c.atoms.invariant in
    let held = holds_on _ _ b inv.reads holds in
    let at = c.atoms.walker.at in
    let end = c.atoms.walker.end in
    let p = place_of c.args.holder in
    let s = level_in c.args.holder in
    let left = inv.left b before holds knows in
    let stuck : StuckThere s b at end (SizeSmall c.in-Err-SizeSmall.at) = subst (λ (x : Parent). StuckThere (level_of x) b at end (SizeSmall c.in-Err-SizeSmall.at)) inv.parent (rw c.in-Err-SizeSmall.field-0-is at (c.in-Err-SizeSmall.ensures.stuck b held)) in
    let refused : Walks before (told_in c.args.depth p s b c.args.span.at (c.args.span.at + c.args.span.len)) c.args.reading.now c.atoms.reading (Err (fault.Why (why.SizeSmall c.in-Err-SizeSmall.at))) =
    left_fails before _ _ (end_told p at bad_header (window b at end)) none_told c.args.reading.now c.atoms.reading c.atoms.reading (fault.Why (why.SizeSmall c.in-Err-SizeSmall.at)) left (told_stop c.args.depth p s b at end bad_header (window b at end) stuck.0 ∙ sym (both_none _))
    (small_refused left.mid p at c.in-Err-SizeSmall.at (window b at end) c.atoms.reading c.atoms.reading (sym stuck.1))
    in
    refused ∙ ap (λ (i : ℕ). Some (why.SizeSmall i)) (sym c.in-Err-SizeSmall.at-is)

pub walk_atoms-returns-in-Err-Truncated-clause-walks : goal.walk_atoms-returns-in-Err-Truncated-clause-walks
walk_atoms-returns-in-Err-Truncated-clause-walks g t c = λ b before holds knows.
    let inv = c.atoms.invariant in
    let held = holds_on _ _ b inv.reads holds in
    let at = c.atoms.walker.at in
    let end = c.atoms.walker.end in
    let p = place_of c.args.holder in
    let s = level_in c.args.holder in
    let left = inv.left b before holds knows in
    let stuck : StuckThere s b at end (Truncated c.in-Err-Truncated.at) = subst (λ (x : Parent). StuckThere (level_of x) b at end (Truncated c.in-Err-Truncated.at)) inv.parent (rw c.in-Err-Truncated.field-0-is at (c.in-Err-Truncated.ensures.stuck b held)) in
    let refused : Walks before (told_in c.args.depth p s b c.args.span.at (c.args.span.at + c.args.span.len)) c.args.reading.now c.atoms.reading (Err (fault.Why (why.Truncated c.in-Err-Truncated.at))) =
    left_fails before _ _ (end_told p at passes (window b at end)) none_told c.args.reading.now c.atoms.reading c.atoms.reading (fault.Why (why.Truncated c.in-Err-Truncated.at)) left (told_stop c.args.depth p s b at end passes (window b at end) stuck.0 ∙ sym (both_none _))
    (cut_refused left.mid p at c.in-Err-Truncated.at (window b at end) c.atoms.reading c.atoms.reading (sym stuck.1))
    in
    refused ∙ ap (λ (i : ℕ). Some (why.Truncated i)) (sym c.in-Err-Truncated.at-is)

pub walk_atoms-returns-in-Err-clause-walks : goal.walk_atoms-returns-in-Err-clause-walks
walk_atoms-returns-in-Err-clause-walks g t c = λ b before holds knows.
    let inv = c.atoms.invariant in
    let held = holds_on _ _ b inv.reads holds in
    let then = holds_on _ _ b c.next.ensures.reads held in
    let at = c.atoms.walker.at in
    let end = c.atoms.walker.end in
    let p = place_of c.args.holder in
    let s = level_in c.args.holder in
    let k = c.in-Ok-Some.atom in
    let this = atom_in b k in
    let left = inv.left b before holds knows in
    let order : InOrder at end k = rw c.in-Ok-Some.field-0-is at c.in-Ok-Some.ensures.atom in
    let step : Stepped s b at end (Some k) = subst (λ (x : Parent). Stepped (level_of x) b at end (Some k)) inv.parent (rw c.in-Ok-Some.field-0-is at (c.in-Ok-Some.ensures.row b held)) in
    let place : k.at + length (spell this) ≡ k.next = ap (λ (i : ℕ). i + length (spell this)) order.begins ∙ step.1 in
    let met : Walks left.mid (inner_told c.args.depth p at this) c.atoms.reading c.walk_atom.new.reading (Err c.in-Err.fault) =
    subst (λ (t : Told). Walks left.mid t c.atoms.reading c.walk_atom.new.reading (Err c.in-Err.fault)) (deep_plain c.atoms.reading.has_user c.args.depth p at this c.requires.plain)
    (subst (λ (i : ℕ). Walks left.mid (deep_told c.atoms.reading.has_user c.args.depth p i this) c.atoms.reading c.walk_atom.new.reading (Err c.in-Err.fault)) order.begins (c.in-Err.ensures.walks b left.mid then place left.knows))
    in
    left_fails before _ _ (inner_told c.args.depth p at this) (told_in c.args.depth p s b k.next end) c.args.reading.now c.atoms.reading c.walk_atom.new.reading c.in-Err.fault left
    (told_more c.args.depth p s b at k.next end this step.0 step.1) met

pub walk_atoms-atoms-preserved : goal.walk_atoms-atoms-preserved
walk_atoms-atoms-preserved g t c =
    let inv = c.atoms.invariant in
    let at = c.atoms.walker.at in
    let end = c.atoms.walker.end in
    let p = place_of c.args.holder in
    let s = level_in c.args.holder in
    let k = c.in-Ok-Some.atom in
    let order : InOrder at end k = rw c.in-Ok-Some.field-0-is at c.in-Ok-Some.ensures.atom in
    let moved : c.next.new.self.at ≡ k.next = rw c.in-Ok-Some.field-0-is at c.in-Ok-Some.ensures.moved in
    record {
      end = c.next.ensures.end ∙ inv.end;
      parent = c.next.ensures.parent ∙ inv.parent;
      few = c.in-Ok.ensures.few;
      lies = rw moved (lies_then c.args.holder c.args.span.at at k.next c.args.reading.now c.atoms.reading c.walk_atom.new.reading (omega (arith, order.body, order.behind)) inv.lies (rw order.begins at c.in-Ok.ensures.lies));
      reads = ReadsOnly-trans _ _ _ (ReadsOnly-trans _ _ _ inv.reads c.next.ensures.reads) c.walk_atom.ensures.reads;
      window = window_stays (g.D.Depot.disk c.next.new.depot) (g.D.Depot.disk c.walk_atom.new.depot) c.next.new.self.window c.walk_atom.ensures.reads c.next.ensures.window;
      left = λ b before holds knows.
          let held = holds_on _ _ b inv.reads holds in
          let then = holds_on _ _ b c.next.ensures.reads held in
          let this = atom_in b k in
          let left = inv.left b before holds knows in
          let step : Stepped s b at end (Some k) = subst (λ (x : Parent). Stepped (level_of x) b at end (Some k)) inv.parent (rw c.in-Ok-Some.field-0-is at (c.in-Ok-Some.ensures.row b held)) in
          let place : k.at + length (spell this) ≡ k.next = ap (λ (i : ℕ). i + length (spell this)) order.begins ∙ step.1 in
          let met : Walked left.mid (inner_told c.args.depth p at this) c.atoms.reading c.walk_atom.new.reading =
          subst (λ (t : Told). Walked left.mid t c.atoms.reading c.walk_atom.new.reading) (deep_plain c.atoms.reading.has_user c.args.depth p at this c.requires.plain)
          (subst (λ (i : ℕ). Walked left.mid (deep_told c.atoms.reading.has_user c.args.depth p i this) c.atoms.reading c.walk_atom.new.reading) order.begins (c.in-Ok.ensures.walks b left.mid then place left.knows))
          in
          rw (moved, c.next.ensures.end) (left_more before _ _ (inner_told c.args.depth p at this) (told_in c.args.depth p s b k.next end) c.args.reading.now c.atoms.reading c.walk_atom.new.reading left
          (told_more c.args.depth p s b at k.next end this step.0 step.1) met);
    }

pub walk_atoms-returns-in-Ok-keep_rest-clause-walks : goal.walk_atoms-returns-in-Ok-keep_rest-clause-walks
walk_atoms-returns-in-Ok-keep_rest-clause-walks g t c = λ b before holds knows.
    let inv = c.atoms.invariant in
    let held = holds_on _ _ b inv.reads holds in
    let at = c.atoms.walker.at in
    let end = c.atoms.walker.end in
    let p = place_of c.args.holder in
    let s = level_in c.args.holder in
    let left = inv.left b before holds knows in
    let over = window b at end in
    let step : Stepped s b at end None = subst (λ (x : Parent). Stepped (level_of x) b at end None) inv.parent (rw c.in-Ok-None.field-0-is at (c.in-Ok-None.ensures.row b held)) in
    let moved : c.next.new.self.at ≡ at = rw c.in-Ok-None.field-0-is at c.in-Ok-None.ensures.moved in
    let long : length over ≡ end - at = length-window b at end (rw inv.end (c.requires.inside b holds)) in
    let whole : c.next.new.self.at + length over ≡ c.next.new.self.end = omega (arith, moved, c.next.ensures.end, long, c.atoms.walker.in_order) in
    let kept : Remembers left.mid (end_at p at ends) (rest_parts at over) c.atoms.reading c.keep_rest.new.reading =
    subst (λ (i : ℕ). Remembers left.mid (end_at p i ends) (rest_parts i over) c.atoms.reading c.keep_rest.new.reading) moved (c.in-Ok-keep_rest.ensures.remembers over left.mid p whole left.knows)
    in
    let last : Walked left.mid (end_told p at ends over) c.atoms.reading c.keep_rest.new.reading =
    step_walked left.mid (end_at p at ends) (rest_parts at over) c.atoms.reading c.keep_rest.new.reading (sym (c.in-None.ensures left.mid left.knows.moov)) kept
    in
    left_none before _ _ c.args.reading.now c.atoms.reading c.keep_rest.new.reading left
    (subst (λ (t : Told). Walked left.mid t c.atoms.reading c.keep_rest.new.reading) (sym (told_stop c.args.depth p s b at end ends over step)) last)

pub walk_atoms-returns-in-Some-clause-walks : goal.walk_atoms-returns-in-Some-clause-walks
walk_atoms-returns-in-Some-clause-walks g t c = λ b before holds knows.
    let inv = c.atoms.invariant in
    let held = holds_on _ _ b inv.reads holds in
    let at = c.atoms.walker.at in
    let end = c.atoms.walker.end in
    let p = place_of c.args.holder in
    let s = level_in c.args.holder in
    let left = inv.left b before holds knows in
    let step : Stepped s b at end None = subst (λ (x : Parent). Stepped (level_of x) b at end None) inv.parent (rw c.in-Ok-None.field-0-is at (c.in-Ok-None.ensures.row b held)) in
    left_fails before _ _ (end_told p at ends (window b at end)) none_told c.args.reading.now c.atoms.reading c.atoms.reading (fault.Why c.in-Some.why) left (told_stop c.args.depth p s b at end ends (window b at end) step ∙ sym (both_none _))
    (end_refused left.mid p at (window b at end) c.atoms.reading c.atoms.reading c.in-Some.why (sym (c.in-Some.ensures left.mid left.knows.moov)))

pub walk_atom-returns-in-Some-clause-lies : goal.walk_atom-returns-in-Some-clause-lies
walk_atom-returns-in-Some-clause-lies g t c =
    let k = c.args.atom.now in
    let q = c.in-Some.inner in
    let there : k.body.at + k.body.len ≤ k.next = omega (arith, c.requires.order.behind) in
    on_ok c.walk_atoms.result
    (lies_inner c.args.holder q k.at k.next k.body.at (k.body.at + k.body.len) c.args.reading.now c.take_atom.new.reading c.walk_atoms.new.reading (opened_inner q (place_of c.args.holder) k.kind.0 c.in-Some.ensures) there c.in-Ok.ensures.lies)
    c.walk_atoms.ensures.lies

pub walk_atoms-returns-in-Ok-keep_rest-clause-lies : goal.walk_atoms-returns-in-Ok-keep_rest-clause-lies
walk_atoms-returns-in-Ok-keep_rest-clause-lies g t c =
    let inv = c.atoms.invariant in
    let at = c.atoms.walker.at in
    let end = c.args.span.at + c.args.span.len in
    let h = c.args.holder in
    let moved : c.next.new.self.at ≡ at = rw c.in-Ok-None.field-0-is at c.in-Ok-None.ensures.moved in
    let stays : c.next.new.self.end ≡ end = c.next.ensures.end ∙ inv.end in
    let rest : LiesIn h at end c.atoms.reading c.keep_rest.new.reading =
    subst (λ (i : ℕ). LiesIn h i end c.atoms.reading c.keep_rest.new.reading) moved (subst (λ (i : ℕ). LiesIn h c.next.new.self.at i c.atoms.reading c.keep_rest.new.reading) stays (c.in-Ok-keep_rest.ensures.lies h))
    in
    lies_then h c.args.span.at at end c.args.reading.now c.atoms.reading c.keep_rest.new.reading (omega (arith, c.atoms.walker.in_order, inv.end)) inv.lies rest
