use Rattle.std.proofs.Common.{◌≡◌, ◌∙◌, ◌+◌, ◌≤◌, Bool, true, false, length, refl, sym, ap, subst, arith}
use Rattle.std.specs.Prelude.{◌&&◌, ◌||◌, not}
use Rattle.container_model.specs.Chunk.{riff}
use Rattle.riff_form.specs.Walk.{chunk_in}
use Rattle.avi_file.specs.declared.kind.Inside.TheVariants.{Items}
use Rattle.me_disk.proofs.Runs.{ReadsOnly-refl}
use Rattle.avi_file.specs.Walk.{Told, Reads, ReadAll, inside_told, is_hdrl_kind, is_info_kind, plain_told, stream_told}
use Rattle.avi_file.proofs.Left.{reads_none}
use Rattle.avi_file.proofs.Opened.{open_run}
use Rattle.avi_file.proofs.Placed.{keeps_after, keeps_same, ok_then}
use Rattle.avi_file.proofs.Sorts.{last_and, other_kind}
use Rattle.avi_file.proofs.top.open_top.Goals as goal

pub returns-then-seen-clause-placed : goal.returns-then-seen-clause-placed
returns-then-seen-clause-placed g c = let order = c.requires.order in keeps_same c.args.chunk.now.at c.args.chunk.now.next c.args.chunk.now.next c.args.reading.now.parts.items (omega arith)

pub returns-else-seen-clause-opened : goal.returns-else-seen-clause-opened
returns-else-seen-clause-opened g c b holds =
    let k = c.args.chunk.now in
    let whole : k.next ≤ length b = c.requires.inside b holds in
    let order = c.requires.order in
    let long : 4 ≤ k.body.len = c.requires.long (ap (λ t. is_info_kind t || is_hdrl_kind t) c.in-Hdrl.is) in
    let first : (not c.args.seen && is_hdrl_kind c.args.kind) ≡ true = ap (λ (t : Bool). not t && is_hdrl_kind c.args.kind) c.if-seen.false ∙ ap is_hdrl_kind c.in-Hdrl.is in
    subst (λ (t : Bool). Reads (inside_told t (is_info_kind c.args.kind) k.at (chunk_in b riff k)) c.args.reading.now c.read_hdrl.new.reading c.read_hdrl.result) (sym first)
    (subst (λ (t : Told). Reads t c.args.reading.now c.read_hdrl.new.reading c.read_hdrl.result) (open_run stream_told b k long (omega arith) order.body) (c.read_hdrl.ensures.run b holds))

pub returns-else-seen-clause-placed : goal.returns-else-seen-clause-placed
returns-else-seen-clause-placed g c =
    let k = c.args.chunk.now in
    let order = c.requires.order in
    let long : 4 ≤ k.body.len = c.requires.long (ap (λ t. is_info_kind t || is_hdrl_kind t) c.in-Hdrl.is) in
    ok_then c.read_hdrl.result (λ h. keeps_after k.at (k.body.at + 4) (k.body.at + k.body.len) (k.body.at + k.body.len) k.next k.next c.args.reading.now.parts.items c.args.reading.now.parts.items c.read_hdrl.new.reading.parts.items refl h (omega arith) (omega arith) (omega arith)) c.read_hdrl.ensures.placed

pub returns-in-Info-clause-opened : goal.returns-in-Info-clause-opened
returns-in-Info-clause-opened g c b holds =
    let k = c.args.chunk.now in
    let whole : k.next ≤ length b = c.requires.inside b holds in
    let order = c.requires.order in
    let long : 4 ≤ k.body.len = c.requires.long (ap (λ t. is_info_kind t || is_hdrl_kind t) c.in-Info.is) in
    let first : (not c.args.seen && is_hdrl_kind c.args.kind) ≡ false = ap (λ t. not c.args.seen && is_hdrl_kind t) c.in-Info.is ∙ last_and (not c.args.seen) in
    let fields : is_info_kind c.args.kind ≡ true = ap is_info_kind c.in-Info.is in
    subst (λ (t : Bool). Reads (inside_told t (is_info_kind c.args.kind) k.at (chunk_in b riff k)) c.args.reading.now c.read_chunks.new.reading c.read_chunks.result) (sym first)
    (subst (λ (t : Bool). Reads (inside_told false t k.at (chunk_in b riff k)) c.args.reading.now c.read_chunks.new.reading c.read_chunks.result) (sym fields)
    (subst (λ (t : Told). Reads t c.args.reading.now c.read_chunks.new.reading c.read_chunks.result) (open_run (plain_told Items) b k long (omega arith) order.body) (c.read_chunks.ensures.run b holds)))

pub returns-in-Info-clause-placed : goal.returns-in-Info-clause-placed
returns-in-Info-clause-placed g c =
    let k = c.args.chunk.now in
    let order = c.requires.order in
    let long : 4 ≤ k.body.len = c.requires.long (ap (λ t. is_info_kind t || is_hdrl_kind t) c.in-Info.is) in
    ok_then c.read_chunks.result (λ h. keeps_after k.at (k.body.at + 4) (k.body.at + k.body.len) (k.body.at + k.body.len) k.next k.next c.args.reading.now.parts.items c.args.reading.now.parts.items c.read_chunks.new.reading.parts.items refl h (omega arith) (omega arith) (omega arith)) c.read_chunks.ensures.placed

pub returns-in_default : goal.returns-in_default
returns-in_default g c =
    let k = c.args.chunk.now in
    let order = c.requires.order in
    let other = other_kind c.args.kind c.in_default.not-Info c.in_default.not-Hdrl in
    record {
      opened = λ b holds.
          let first : (not c.args.seen && is_hdrl_kind c.args.kind) ≡ false = ap (λ (t : Bool). not c.args.seen && t) other.1 ∙ last_and (not c.args.seen) in
          subst (λ (t : Bool). ReadAll (inside_told t (is_info_kind c.args.kind) k.at (chunk_in b riff k)) c.args.reading.now c.args.reading.now) (sym first)
          (subst (λ (t : Bool). ReadAll (inside_told false t k.at (chunk_in b riff k)) c.args.reading.now c.args.reading.now) (sym other.0) (reads_none c.args.reading.now));
      placed = keeps_same k.at k.next k.next c.args.reading.now.parts.items (omega arith);
      same = λ e. refl;
      reads = ReadsOnly-refl (g.D.Depot.disk c.args.depot.now);
      cause = λ e. absurd cc;
    }
