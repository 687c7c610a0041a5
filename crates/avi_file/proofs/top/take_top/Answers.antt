use Rattle.std.proofs.Common.{◌≡◌, ◌∙◌, ◌≤◌, ℕ, Bool, true, false, List, length, refl, sym, ap, subst, arith}
use Rattle.std.specs.Prelude.{codes, ◌&&◌, not, Result}
use Rattle.std.specs.declared.result.Result.TheVariants.{Ok, Err}
use Rattle.part_tree.specs.declared.part.Role.{Role}
use Rattle.part_tree.specs.declared.part.Part.{Part}
use Rattle.container_model.specs.Chunk.{Chunk, riff}
use Rattle.carrier_model.specs.Info.{is_type}
use Rattle.riff_form.specs.Walk.{chunk_in}
use Rattle.avi_model.specs.Map.{top_role}
use Rattle.me_disk.proofs.Holds.{holds_on}
use Rattle.avi_file.specs.declared.kind.TopKind.{TopKind}
use Rattle.avi_file.specs.declared.list.Reading.{Reading}
use Rattle.part_tree.specs.declared.why.ReadFault.{ReadFault}
use Rattle.avi_file.specs.Walk.{IsKind, KeepsPlaces, Reads, chunk_told, inside_told, is_essence, is_hdrl_kind, is_info_kind, is_items, is_movi_kind, role_of_kind}
use Rattle.avi_file.proofs.Left.{stands_in, reads_then, reads_fail}
use Rattle.avi_file.proofs.Placed.{keeps_then}
use Rattle.avi_file.proofs.Sorts.{role_is, items_is, essence_is}
use Rattle.avi_file.proofs.top.take_top.Goals as goal

-- the part that a chunk of a kind is
part_read : (c : Chunk) (at : ℕ) (kind : TopKind) (indexed carrier : Bool) (role : Role) (old new : Reading) (result : Result Unit ReadFault) → IsKind c kind → role ≡ role_of_kind kind indexed → carrier ≡ is_items role
    → Reads (chunk_told carrier role at c) old new result → Reads (chunk_told (is_type (codes "INFO") c) (top_role indexed c) at c) old new result
part_read c at kind indexed carrier role old new result is same own h =
    let items : carrier ≡ is_type (codes "INFO") c = own ∙ ap is_items same ∙ items_is kind indexed ∙ sym is.info in
    let top : role ≡ top_role indexed c = same ∙ role_is c kind indexed is in
    subst (λ (r : Role). Reads (chunk_told (is_type (codes "INFO") c) r at c) old new result) top (subst (λ (t : Bool). Reads (chunk_told t role at c) old new result) items h)

-- what stands in it
inside_read : (c : Chunk) (at : ℕ) (kind : TopKind) (seen : Bool) (old new : Reading) (result : Result Unit ReadFault) → IsKind c kind → Reads (inside_told (not seen && is_hdrl_kind kind) (is_info_kind kind) at c) old new result
    → Reads (inside_told (not seen && is_type (codes "hdrl") c) (is_type (codes "INFO") c) at c) old new result
inside_read c at kind seen old new result is h =
    subst (λ (t : Bool). Reads (inside_told (not seen && is_type (codes "hdrl") c) t at c) old new result) (sym is.info) (subst (λ (t : Bool). Reads (inside_told (not seen && t) (is_info_kind kind) at c) old new result) (sym is.hdrl) h)

pub returns-in-Err-put_part-clause-took : goal.returns-in-Err-put_part-clause-took
returns-in-Err-put_part-clause-took g c b holds next =
    let k = c.args.chunk.now in
    let this = chunk_in b riff k in
    let seen = c.args.top.now.hdrl in
    let indexed = c.args.top.now.idx1 in
    let whole : k.next ≤ length b = c.requires.inside b holds in
    let order = c.requires.order in
    reads_fail (chunk_told (is_type (codes "INFO") this) (top_role indexed this) k.at this) (inside_told (not seen && is_type (codes "hdrl") this) (is_type (codes "INFO") this) k.at this) c.args.top.now.reading c.put_part.new.reading c.put_part.new.reading c.in-Err-put_part.fault
    (part_read this k.at c.in-Ok.kind indexed c.is_info.result c.role_by-role.result c.args.top.now.reading c.put_part.new.reading (Err c.in-Err-put_part.fault) (c.in-Ok.ensures.kind b holds) c.role_by-role.ensures c.is_info.ensures (c.in-Err-put_part.ensures.took this (stands_in b k (omega arith) next)))

pub returns-in-Err-open_top-clause-took : goal.returns-in-Err-open_top-clause-took
returns-in-Err-open_top-clause-took g c b holds next =
    let k = c.args.chunk.now in
    let this = chunk_in b riff k in
    let seen = c.args.top.now.hdrl in
    let indexed = c.args.top.now.idx1 in
    let whole : k.next ≤ length b = c.requires.inside b holds in
    let order = c.requires.order in
    let held = holds_on (g.D.Depot.disk c.args.depot.now) (g.D.Depot.disk c.top_kind.new.depot) b c.top_kind.ensures.reads holds in
    let kind = c.in-Ok.ensures.kind b holds in
    reads_then (chunk_told (is_type (codes "INFO") this) (top_role indexed this) k.at this) (inside_told (not seen && is_type (codes "hdrl") this) (is_type (codes "INFO") this) k.at this) c.args.top.now.reading c.put_part.new.reading c.open_top.new.reading (Err c.in-Err-open_top.fault)
    (part_read this k.at c.in-Ok.kind indexed c.is_info.result c.role_by-role.result c.args.top.now.reading c.put_part.new.reading (Ok tt) kind c.role_by-role.ensures c.is_info.ensures (c.in-Ok-put_part.ensures.took this (stands_in b k (omega arith) next)))
    (inside_read this k.at c.in-Ok.kind seen c.put_part.new.reading c.open_top.new.reading (Err c.in-Err-open_top.fault) kind (c.in-Err-open_top.ensures.opened b held))

pub returns-clause-took : goal.returns-clause-took
returns-clause-took g c b holds next =
    let k = c.args.chunk.now in
    let this = chunk_in b riff k in
    let seen = c.args.top.now.hdrl in
    let indexed = c.args.top.now.idx1 in
    let whole : k.next ≤ length b = c.requires.inside b holds in
    let order = c.requires.order in
    let held = holds_on (g.D.Depot.disk c.args.depot.now) (g.D.Depot.disk c.top_kind.new.depot) b c.top_kind.ensures.reads holds in
    let kind = c.in-Ok.ensures.kind b holds in
    reads_then (chunk_told (is_type (codes "INFO") this) (top_role indexed this) k.at this) (inside_told (not seen && is_type (codes "hdrl") this) (is_type (codes "INFO") this) k.at this) c.args.top.now.reading c.put_part.new.reading c.open_top.new.reading (Ok tt)
    (part_read this k.at c.in-Ok.kind indexed c.is_info.result c.role_by-role.result c.args.top.now.reading c.put_part.new.reading (Ok tt) kind c.role_by-role.ensures c.is_info.ensures (c.in-Ok-put_part.ensures.took this (stands_in b k (omega arith) next)))
    (inside_read this k.at c.in-Ok.kind seen c.put_part.new.reading c.open_top.new.reading (Ok tt) kind (c.in-Ok-open_top.ensures.opened b held))

-- by whether the chunk is a list of essence, in which nothing is opened
places : (movi essence : Bool) (at next : ℕ) (ps qs rs : List Part) → essence ≡ movi → at ≤ next → KeepsPlaces at next next ps qs → (essence ≡ false → KeepsPlaces at at next ps qs) → KeepsPlaces at next next qs rs → (movi ≡ true → rs ≡ qs)
    → KeepsPlaces at next next ps rs
places true essence at next ps qs rs e le one beside two same = subst (λ (x : List Part). KeepsPlaces at next next ps x) (sym (same refl)) one
places false essence at next ps qs rs e le one beside two same = keeps_then at at at next next next next ps qs rs (beside e) two (omega arith) (omega arith) (omega arith)

pub returns-clause-placed : goal.returns-clause-placed
returns-clause-placed g c =
    let k = c.args.chunk.now in
    let order = c.requires.order in
    places (is_movi_kind c.in-Ok.kind) (is_essence c.role_by-role.result) k.at k.next c.args.top.now.reading.parts.items c.put_part.new.reading.parts.items c.open_top.new.reading.parts.items
    (ap is_essence c.role_by-role.ensures ∙ essence_is c.in-Ok.kind c.args.top.now.idx1) (omega arith) c.in-Ok-put_part.ensures.placed (λ e. c.in-Ok-put_part.ensures.inside e) c.in-Ok-open_top.ensures.placed c.open_top.ensures.same
