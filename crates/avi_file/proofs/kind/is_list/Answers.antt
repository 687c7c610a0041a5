use Rattle.std.proofs.Common.{rules, ◌≡◌, ◌∙◌, ◌<◌, ℕ, List, Bool, length, take, drop, sym, ap, arith, length-take}
use Rattle.std.specs.Prelude.{◌&&◌, codes}
use Rattle.std.specs.Str.{bytes_eq}
use Rattle.std.proofs.lemmas.List.{take-take}
use Rattle.container_model.specs.Written.{slice}
use Rattle.container_model.proofs.Written.{length-slice}
use Rattle.avi_file.proofs.Left.{no_type}
use Rattle.avi_file.proofs.kind.is_list.Goals as goal

pub returns-then-chunk-lt4-clause-is : goal.returns-then-chunk-lt4-clause-is
returns-then-chunk-lt4-clause-is g c b held =
    let k = c.args.chunk.now in
    let body = slice b k.body.at k.body.len in
    let four : length c.args.word.now ≡ 4 = search rules in
    let short : length (take 4 body) < length c.args.word.now = omega (arith, four, length-take 4 body, length-slice b k.body.at k.body.len (c.requires.inside b held), c.if-chunk-lt4.true) in
    no_type (bytes_eq k.id.0 (codes "LIST")) (take 4 body) c.args.word.now short

pub returns-clause-is : goal.returns-clause-is
returns-clause-is g c b held =
    let k = c.args.chunk.now in
    let body = slice b k.body.at k.body.len in
    let word = c.in_ok-read_at.ensures.bytes held.tells ∙ ap (λ (x : List ℕ). slice x k.body.at 4) held.bytes ∙ sym (take-take 4 k.body.len (drop k.body.at b) c.if-chunk-lt4.false) in
    c.is-2.ensures.is ∙ ap (λ (x : List ℕ). bytes_eq x c.args.word.now) word ∙ ap (λ (t : Bool). t && bytes_eq (take 4 body) c.args.word.now) (sym (sym c.is.ensures.is ∙ c.if-not-is.false))
