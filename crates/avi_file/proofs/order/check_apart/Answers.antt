use Rattle.std.proofs.Common.{◌+◌, ◌≤◌, List, false, get_or, drop, arith, sym, subst}
use Rattle.std.proofs.lemmas.List.{drop_more, drop_all}
use Rattle.part_tree.specs.Ranges.{Ascends}
use Rattle.avi_file.specs.declared.index.IndexChunk.{IndexChunk}
use Rattle.avi_file.specs.Indexes.{IsSoundChunk}
use Rattle.avi_file.specs.Order.{bodies_in}
use Rattle.avi_file.proofs.Placing.{ApartLeft, apart_next, apart_cut, apart_end, each_of}
use Rattle.avi_file.proofs.order.check_apart.Goals as goal

pub returns-then-chunk-from-clause-apart : goal.returns-then-chunk-from-clause-apart
returns-then-chunk-from-clause-apart c ts same =
    let none : IndexChunk = record { body = record { at = 0; len = 0 }; standard = false } in
    let xs = c.args.chunks.now in
    let k = c.chunks.chunk-index in
    let x = get_or xs k none in
    let split = drop_more xs k none c.chunks-test.true in
    apart_cut c.chunks.from x (drop (k + 1) xs) ts (subst (λ (ys : List IndexChunk). ApartLeft c.chunks.from ys ts) split (c.chunks.invariant.apart ts same)) c.if-chunk-from.true

pub chunks-preserved : goal.chunks-preserved
chunks-preserved c =
    let none : IndexChunk = record { body = record { at = 0; len = 0 }; standard = false } in
    let xs = c.args.chunks.now in
    let k = c.chunks.chunk-index in
    let x = get_or xs k none in
    let split = drop_more xs k none c.chunks-test.true in
    let far : c.chunks.from + 8 ≤ x.body.at = c.if-chunk-from.false in
    record {
      small = (each_of IsSoundChunk xs c.requires.sound k none c.chunks-test.true).1;
      apart = λ ts same. apart_next c.chunks.from x (drop (k + 1) xs) ts (subst (λ (ys : List IndexChunk). ApartLeft c.chunks.from ys ts) split (c.chunks.invariant.apart ts same)) far;
      ascend = λ later. c.chunks.invariant.ascend (subst (λ (ys : List IndexChunk). Ascends c.chunks.from (bodies_in ys)) (sym split) (let near : c.chunks.from ≤ x.body.at = omega arith in (near, later)));
    }

pub returns-clause-apart : goal.returns-clause-apart
returns-clause-apart c ts same =
    let xs = c.args.chunks.now in
    let k = c.chunks.chunk-index in
    apart_end c.chunks.from ts (subst (λ (ys : List IndexChunk). ApartLeft c.chunks.from ys ts) (drop_all k xs c.chunks-test.false) (c.chunks.invariant.apart ts same))
