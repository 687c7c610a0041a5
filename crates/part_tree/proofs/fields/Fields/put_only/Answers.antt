use Rattle.std.proofs.Common.{sym, ◌∙◌, ap, arith, length, ◌<◌}
use Rattle.part_tree.specs.Names.{field_place}
use Rattle.part_tree.proofs.Entries.{only_entry, new_beside, absent_at, Absent, front_len}
use Rattle.part_tree.proofs.fields.Fields.put_only.Goals as goal
use Rattle.part_tree.proofs.fields.Fields.put_only.Goals.{else-k-len-via-then-k-len+else-is, else-k-len-via-else-k-len, in-Ok, in-Err}
use Rattle.std.specs.Prelude.{is_ok}

pub invariant_of-self : goal.invariant_of-self
invariant_of-self c =
    let at = c.entries_before-k.ensures.count ∙ ap (front_len (field_place c.args.name)) c.deref.ensures.value in
    let inside : c.entries_before-k.result < length c.self.inside.entries.items = omega (arith, c.if-k-len.true, c.len.ensures) in
    let some : 0 < length c.in_ok-values.values = omega (arith, ap length c.in_ok-values.ensures) in
    (only_entry c.self.inside.entries.items c.entries_before-k.result c.args.name c.in_ok-values.values c.index.result.now c.self.invariant inside some at c.index.ensures (sym c.is.ensures ∙ c.if-is.true)).0

pub returns-then-is-clause-ok : goal.returns-then-is-clause-ok
returns-then-is-clause-ok c =
    let at = c.entries_before-k.ensures.count ∙ ap (front_len (field_place c.args.name)) c.deref.ensures.value in
    let inside : c.entries_before-k.result < length c.self.inside.entries.items = omega (arith, c.if-k-len.true, c.len.ensures) in
    let some : 0 < length c.in_ok-values.values = omega (arith, ap length c.in_ok-values.ensures) in
    rw (← c.self.view_is, ← c.in_ok-values.ensures) (only_entry c.self.inside.entries.items c.entries_before-k.result c.args.name c.in_ok-values.values c.index.result.now c.self.invariant inside some at c.index.ensures (sym c.is.ensures ∙ c.if-is.true)).1

pub invariant_of-self-2 : goal.invariant_of-self-2
invariant_of-self-2 c =
    let at = c.entries_before-k.ensures.count ∙ ap (front_len (field_place c.args.name)) c.deref.ensures.value in
    let absent : Absent c.self.inside.entries.items c.entries_before-k.result c.args.name =
    elim c.else-k-len.branch [
      | else-k-len-via-then-k-len+else-is w ↦ absent_at _ _ _ w.index.result.now w.index.ensures (sym w.is.ensures ∙ w.if-is.false)
      | else-k-len-via-else-k-len w ↦ λ d inside. absurd (omega (arith, w.if-k-len.false, c.len.ensures))
    ]
    in
    let some : 0 < length c.in_ok-values.values = omega (arith, ap length c.in_ok-values.ensures) in
    (new_beside c.self.inside.entries.items c.entries_before-k.result c.args.name c.in_ok-values.values c.insert.new.self.items (is_ok c.insert.result) c.self.invariant c.requires some at absent c.insert.ensures.items).0

pub returns-clause-ok : goal.returns-clause-ok
returns-clause-ok c =
    let at = c.entries_before-k.ensures.count ∙ ap (front_len (field_place c.args.name)) c.deref.ensures.value in
    let absent : Absent c.self.inside.entries.items c.entries_before-k.result c.args.name =
    elim c.else-k-len.branch [
      | else-k-len-via-then-k-len+else-is w ↦ absent_at _ _ _ w.index.result.now w.index.ensures (sym w.is.ensures ∙ w.if-is.false)
      | else-k-len-via-else-k-len w ↦ λ d inside. absurd (omega (arith, w.if-k-len.false, c.len.ensures))
    ]
    in
    let some : 0 < length c.in_ok-values.values = omega (arith, ap length c.in_ok-values.ensures) in
    let told = (new_beside c.self.inside.entries.items c.entries_before-k.result c.args.name c.in_ok-values.values c.insert.new.self.items (is_ok c.insert.result) c.self.invariant c.requires some at absent c.insert.ensures.items).1 in
    elim c.match-insert.branch [ in-Ok w ↦ rw (w.result-is, ← c.self.view_is, ← c.in_ok-values.ensures) (told (ap is_ok w.in-Ok.is)) | in-Err w ↦ rw w.result-is tt ]
