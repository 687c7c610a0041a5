use Rattle.std.proofs.Common.{rules, ◌≡◌, ◌+◌, ◌++◌, ℕ, List, take, drop, length, sym, ap, ◌∙◌, subst, arith}
use Rattle.std.proofs.Math.Seq.{take-add}
use Rattle.std.proofs.lemmas.List.{drop-drop}
use Rattle.md5.specs.Md5.{Holds as HasMessage}
use Rattle.me_disk.proofs.Holds.{holds_on}
use Rattle.me_disk.proofs.Runs.{ReadsOnly-trans}
use Rattle.me_report.proofs.checksum.sound_md5.Goals as goal

pub blocks-2-preserved : goal.blocks-2-preserved
blocks-2-preserved g c =
    let old = g.D.Depot.disk c.args.depot.now in
    let now = g.D.Depot.disk c.blocks-2.depot in
    record {
      inside = omega (arith, c.min-count.ensures, c.blocks-2-test.true, c.blocks-2.invariant.inside);
      reads = ReadsOnly-trans old now (g.D.Depot.disk c.hash_block.new.depot) c.blocks-2.invariant.reads c.hash_block.ensures.reads;
      message = λ b held.
          let here = holds_on old now b c.blocks-2.invariant.reads held in
          let part = drop c.args.sound.at b in
          let joined : take c.blocks-2.done part ++ take c.min-count.result (drop (c.args.sound.at + c.blocks-2.done) b) ≡ take (c.blocks-2.done + c.min-count.result) part =
          ap (λ (xs : List ℕ). take c.blocks-2.done part ++ take c.min-count.result xs) (sym (drop-drop c.blocks-2.done c.args.sound.at b)) ∙ sym (take-add c.blocks-2.done c.min-count.result part) in
          let whole : length (take c.min-count.result c.blocks-2.block) ≡ c.min-count.result = search rules in
          subst (λ (m : List ℕ). HasMessage c.hash_block.new.hasher m)
          (ap (λ (n : ℕ). take c.blocks-2.done part ++ take n (drop (c.args.sound.at + c.blocks-2.done) b)) whole ∙ joined)
          (c.in_ok-hash_block.ensures.message b (take c.blocks-2.done part) here (c.blocks-2.invariant.message b held));
    }
