use Rattle.std.proofs.Common.{arith, ap, sym, ◌≡◌, ◌∙◌, ◌++◌, ℕ, List, length}
use Rattle.me_disk.specs.Disk.{bytes_of}
use Rattle.me_disk.specs.Memory.{Memory, memory_disk}
use Rattle.mov_plan.proofs.tests.planned.Goals as goal

pub plan_movie-requires-clause-inside : goal.plan_movie-requires-clause-inside
plan_movie-requires-clause-inside c = λ b h.
    let file : bytes_of (memory_disk c.in-Ok.depot).slots.main ≡ c.args.file.now =
    ap (λ (m : Memory). bytes_of (memory_disk m).slots.main) c.in-Ok.ensures ∙ c.in_ok-extend_from_slice.ensures.items ∙ ap (λ (xs : List ℕ). xs ++ c.args.file.now) c.new-bytes.ensures.items
    in
    omega (arith, ap length (sym file ∙ h.bytes), c.requires.len)
