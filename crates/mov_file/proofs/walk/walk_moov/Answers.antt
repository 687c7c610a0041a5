use Rattle.std.proofs.Common.{rules, arith, refl, sym, ap, subst, ◌≡◌, ◌∙◌, ◌+◌, ◌-◌, ℕ, Bool, length}
use Rattle.std.specs.Prelude.{◌&&◌, ◌||◌, codes, not}
use Rattle.std.specs.Str.{bytes_eq}
use Rattle.std.specs.declared.option.Option.TheVariants.{Some, None}
use Rattle.std.specs.declared.result.Result.TheVariants.{Err}
use Rattle.me_disk.proofs.Holds.{holds_on}
use Rattle.me_disk.proofs.Runs.{ReadsOnly-trans}
use Rattle.container_model.specs.Chunk.{bad_header, ends, passes, spell}
use Rattle.container_model.specs.Sizes.{inside}
use Rattle.container_model.specs.Walk.{end_at}
use Rattle.container_model.specs.Windows.{window}
use Rattle.container_model.proofs.Windows.{length-window}
use Rattle.part_tree.specs.Parts.{rest_parts}
use Rattle.mov_model.specs.Atoms.{moov}
use Rattle.part_tree.specs.declared.why.ReadFault.TheVariants as fault
use Rattle.part_tree.specs.declared.why.Why.TheVariants as why
use Rattle.qt_atoms.specs.Walk.{InOrder, Stepped, StuckThere, atom_in, level_of}
use Rattle.qt_atoms.specs.declared.header.Parent.{Parent}
use Rattle.qt_atoms.specs.declared.walker.AtomFault.TheVariants.{SizeSmall, Truncated}
use Rattle.qt_atoms.proofs.Windows.{window_stays}
use Rattle.mov_file.specs.Walked.{Remembers, Told, Walked, Walks, end_told, kid_told, moov_told}
use Rattle.mov_file.proofs.Walks.{IsLeft, both_none, cut_refused, left_fails, left_more, left_none, moov_more, moov_stop, none_told, small_refused, step_walked, user_after}
use Rattle.mov_file.specs.declared.holder.Holder.TheVariants.{Moov}
use Rattle.mov_file.specs.Sound.{LiesIn}
use Rattle.mov_file.proofs.Sound.{lies_none, lies_then}
use Rattle.mov_file.proofs.walk.walk_moov.Goals as goal

pub returns-in-Err-SizeSmall-clause-walks : goal.returns-in-Err-SizeSmall-clause-walks
returns-in-Err-SizeSmall-clause-walks g c = λ b before holds knows.
    let inv = c.kids.invariant in
    let held = holds_on _ _ b inv.reads holds in
    let at = c.kids.walker.at in
    let end = c.kids.walker.end in
    let left = inv.left b before holds knows in
    let stuck : StuckThere inside b at end (SizeSmall c.in-Err-SizeSmall.at) = subst (λ (x : Parent). StuckThere (level_of x) b at end (SizeSmall c.in-Err-SizeSmall.at)) inv.parent (rw c.in-Err-SizeSmall.field-0-is at (c.in-Err-SizeSmall.ensures.stuck b held)) in
    let refused : Walks before (moov_told c.args.reading.now.has_user b c.args.span.at (c.args.span.at + c.args.span.len)) c.args.reading.now c.kids.reading (Err (fault.Why (why.SizeSmall c.in-Err-SizeSmall.at))) =
    left_fails before _ _ (end_told moov at bad_header (window b at end)) none_told c.args.reading.now c.kids.reading c.kids.reading (fault.Why (why.SizeSmall c.in-Err-SizeSmall.at)) left (moov_stop c.kids.reading.has_user b at end bad_header (window b at end) stuck.0 ∙ sym (both_none _))
    (small_refused left.mid moov at c.in-Err-SizeSmall.at (window b at end) c.kids.reading c.kids.reading (sym stuck.1))
    in
    refused ∙ ap (λ (i : ℕ). Some (why.SizeSmall i)) (sym c.in-Err-SizeSmall.at-is)

pub returns-in-Err-Truncated-clause-walks : goal.returns-in-Err-Truncated-clause-walks
returns-in-Err-Truncated-clause-walks g c = λ b before holds knows.
    let inv = c.kids.invariant in
    let held = holds_on _ _ b inv.reads holds in
    let at = c.kids.walker.at in
    let end = c.kids.walker.end in
    let left = inv.left b before holds knows in
    let stuck : StuckThere inside b at end (Truncated c.in-Err-Truncated.at) = subst (λ (x : Parent). StuckThere (level_of x) b at end (Truncated c.in-Err-Truncated.at)) inv.parent (rw c.in-Err-Truncated.field-0-is at (c.in-Err-Truncated.ensures.stuck b held)) in
    let refused : Walks before (moov_told c.args.reading.now.has_user b c.args.span.at (c.args.span.at + c.args.span.len)) c.args.reading.now c.kids.reading (Err (fault.Why (why.Truncated c.in-Err-Truncated.at))) =
    left_fails before _ _ (end_told moov at passes (window b at end)) none_told c.args.reading.now c.kids.reading c.kids.reading (fault.Why (why.Truncated c.in-Err-Truncated.at)) left (moov_stop c.kids.reading.has_user b at end passes (window b at end) stuck.0 ∙ sym (both_none _))
    (cut_refused left.mid moov at c.in-Err-Truncated.at (window b at end) c.kids.reading c.kids.reading (sym stuck.1))
    in
    refused ∙ ap (λ (i : ℕ). Some (why.Truncated i)) (sym c.in-Err-Truncated.at-is)

pub returns-in-Ok-keep_rest-clause-walks : goal.returns-in-Ok-keep_rest-clause-walks
returns-in-Ok-keep_rest-clause-walks g c = λ b before holds knows.
    let inv = c.kids.invariant in
    let held = holds_on _ _ b inv.reads holds in
    let at = c.kids.walker.at in
    let end = c.kids.walker.end in
    let left = inv.left b before holds knows in
    let over = window b at end in
    let step : Stepped inside b at end None = subst (λ (x : Parent). Stepped (level_of x) b at end None) inv.parent (rw c.in-Ok-None.field-0-is at (c.in-Ok-None.ensures.row b held)) in
    let moved : c.next.new.self.at ≡ at = rw c.in-Ok-None.field-0-is at c.in-Ok-None.ensures.moved in
    let long : length over ≡ end - at = length-window b at end (rw inv.end (c.requires.inside b holds)) in
    let whole : c.next.new.self.at + length over ≡ c.next.new.self.end = omega (arith, moved, c.next.ensures.end, long, c.kids.walker.in_order) in
    let kept : Remembers left.mid (end_at moov at ends) (rest_parts at over) c.kids.reading c.keep_rest.new.reading =
    subst (λ (i : ℕ). Remembers left.mid (end_at moov i ends) (rest_parts i over) c.kids.reading c.keep_rest.new.reading) moved (c.in-Ok-keep_rest.ensures.remembers over left.mid moov whole left.knows)
    in
    let last : Walked left.mid (end_told moov at ends over) c.kids.reading c.keep_rest.new.reading =
    step_walked left.mid (end_at moov at ends) (rest_parts at over) c.kids.reading c.keep_rest.new.reading refl kept
    in
    left_none before _ _ c.args.reading.now c.kids.reading c.keep_rest.new.reading left
    (subst (λ (t : Told). Walked left.mid t c.kids.reading c.keep_rest.new.reading) (sym (moov_stop c.kids.reading.has_user b at end ends over step)) last)

pub returns-in-Err-clause-walks : goal.returns-in-Err-clause-walks
returns-in-Err-clause-walks g c = λ b before holds knows.
    let inv = c.kids.invariant in
    let held = holds_on _ _ b inv.reads holds in
    let later = holds_on _ _ b c.next.ensures.reads held in
    let at = c.kids.walker.at in
    let end = c.kids.walker.end in
    let seen = c.kids.reading.has_user in
    let k = c.in-Ok-Some.atom in
    let this = atom_in b k in
    let kid = not seen && bytes_eq k.kind.0 (codes "udta") in
    let left = inv.left b before holds knows in
    let order : InOrder at end k = rw c.in-Ok-Some.field-0-is at c.in-Ok-Some.ensures.atom in
    let step : Stepped inside b at end (Some k) = subst (λ (x : Parent). Stepped (level_of x) b at end (Some k)) inv.parent (rw c.in-Ok-Some.field-0-is at (c.in-Ok-Some.ensures.row b held)) in
    let place : k.at + length (spell this) ≡ k.next = ap (λ (i : ℕ). i + length (spell this)) order.begins ∙ step.1 in
    let met : Walks left.mid (kid_told seen kid at this) c.kids.reading c.walk_kid.new.reading (Err c.in-Err.fault) =
    subst (λ (i : ℕ). Walks left.mid (kid_told seen kid i this) c.kids.reading c.walk_kid.new.reading (Err c.in-Err.fault)) order.begins (c.in-Err.ensures.walks b left.mid later place left.knows)
    in
    left_fails before _ _ (kid_told seen kid at this) (moov_told (seen || bytes_eq k.kind.0 (codes "udta")) b k.next end) c.args.reading.now c.kids.reading c.walk_kid.new.reading c.in-Err.fault left
    (moov_more seen b at k.next end this step.0 step.1) met

pub kids-preserved : goal.kids-preserved
kids-preserved g c =
    let inv = c.kids.invariant in
    let at = c.kids.walker.at in
    let end = c.kids.walker.end in
    let seen = c.kids.reading.has_user in
    let k = c.in-Ok-Some.atom in
    let order : InOrder at end k = rw c.in-Ok-Some.field-0-is at c.in-Ok-Some.ensures.atom in
    let moved : c.next.new.self.at ≡ k.next = rw c.in-Ok-Some.field-0-is at c.in-Ok-Some.ensures.moved in
    let kid = not seen && bytes_eq k.kind.0 (codes "udta") in
    record {
      end = c.next.ensures.end ∙ inv.end;
      parent = c.next.ensures.parent ∙ inv.parent;
      few = c.in-Ok.ensures.few;
      lies = rw moved (lies_then Moov c.args.span.at at k.next c.args.reading.now c.kids.reading c.walk_kid.new.reading (omega (arith, order.body, order.behind)) inv.lies (rw order.begins at c.in-Ok.ensures.lies));
      reads = ReadsOnly-trans _ _ _ (ReadsOnly-trans _ _ _ inv.reads c.next.ensures.reads) c.walk_kid.ensures.reads;
      window = window_stays (g.D.Depot.disk c.next.new.depot) (g.D.Depot.disk c.walk_kid.new.depot) c.next.new.self.window c.walk_kid.ensures.reads c.next.ensures.window;
      left = λ b before holds knows.
          let held = holds_on _ _ b inv.reads holds in
          let later = holds_on _ _ b c.next.ensures.reads held in
          let this = atom_in b k in
          let left = inv.left b before holds knows in
          let step : Stepped inside b at end (Some k) = subst (λ (x : Parent). Stepped (level_of x) b at end (Some k)) inv.parent (rw c.in-Ok-Some.field-0-is at (c.in-Ok-Some.ensures.row b held)) in
          let place : k.at + length (spell this) ≡ k.next = ap (λ (i : ℕ). i + length (spell this)) order.begins ∙ step.1 in
          let met : Walked left.mid (kid_told seen kid at this) c.kids.reading c.walk_kid.new.reading =
          subst (λ (i : ℕ). Walked left.mid (kid_told seen kid i this) c.kids.reading c.walk_kid.new.reading) order.begins (c.in-Ok.ensures.walks b left.mid later place left.knows)
          in
          let user_too : (seen || bytes_eq k.kind.0 (codes "udta")) ≡ c.walk_kid.new.reading.has_user =
          ap (λ (t : Bool). t || bytes_eq k.kind.0 (codes "udta")) left.knows.user ∙ sym (user_after kid at this left.mid) ∙ sym met.knows.user
          in
          let whole : Told = moov_told c.args.reading.now.has_user b c.args.span.at (c.args.span.at + c.args.span.len) in
          let next : IsLeft before whole (moov_told (seen || bytes_eq k.kind.0 (codes "udta")) b k.next end) c.args.reading.now c.walk_kid.new.reading =
          left_more before _ _ (kid_told seen kid at this) (moov_told (seen || bytes_eq k.kind.0 (codes "udta")) b k.next end) c.args.reading.now c.kids.reading c.walk_kid.new.reading left (moov_more seen b at k.next end this step.0 step.1) met
          in
          rw (moved, c.next.ensures.end) (subst (λ (t : Bool). IsLeft before whole (moov_told t b k.next end) c.args.reading.now c.walk_kid.new.reading) user_too next);
    }

pub returns-in-Ok-keep_rest-clause-lies : goal.returns-in-Ok-keep_rest-clause-lies
returns-in-Ok-keep_rest-clause-lies g c =
    let inv = c.kids.invariant in
    let at = c.kids.walker.at in
    let end = c.args.span.at + c.args.span.len in
    let moved : c.next.new.self.at ≡ at = rw c.in-Ok-None.field-0-is at c.in-Ok-None.ensures.moved in
    let stays : c.next.new.self.end ≡ end = c.next.ensures.end ∙ inv.end in
    let rest : LiesIn Moov at end c.kids.reading c.keep_rest.new.reading =
    subst (λ (i : ℕ). LiesIn Moov i end c.kids.reading c.keep_rest.new.reading) moved (subst (λ (i : ℕ). LiesIn Moov c.next.new.self.at i c.kids.reading c.keep_rest.new.reading) stays (c.in-Ok-keep_rest.ensures.lies Moov))
    in
    lies_then Moov c.args.span.at at end c.args.reading.now c.kids.reading c.keep_rest.new.reading (omega (arith, c.kids.walker.in_order, inv.end)) inv.lies rest
