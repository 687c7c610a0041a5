use Rattle.std.proofs.Common.{rules, arith, ◌≡◌, ◌∙◌, ◌+◌, ◌-◌, ap, length, get_or, set, List}
use Rattle.mov_file.specs.Track.{with_table}
use Rattle.mov_file.specs.declared.track.TablesAt.{TablesAt}
use Rattle.mov_file.proofs.Tracks.{last_set}
use Rattle.mov_file.proofs.track.keep_table.Goals as goal

pub returns : goal.returns
returns c =
    let ts = c.args.tracks.now.items in
    let k = c.len-count.result - 1 in
    let x = c.index.result.now in
    let last : k + 1 ≡ length ts = omega (arith, c.len-count.ensures, c.if-count-eq0.false) in
    let here : x ≡ get_or ts k x = search rules in
    ap (λ (t : TablesAt). set ts k t) c.with.ensures ∙ last_set (with_table c.args.kind.0 c.args.body) x k ts last here
