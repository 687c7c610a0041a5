-- How many bytes a recovery writes.
use Rattle.std.proofs.Common.{◌≡◌, ℕ, ◌+◌, ◌≤◌, min, Bool, true, List, [], ◌∷◌, length, take, Some, None, refl, ◌∙◌, ap, arith}
use Rattle.std.specs.Prelude.{IsTrue, IsSome, is_some, if◌then◌else◌, Result, Ok, Err}
use Rattle.std.specs.declared.option.Option.{Option}
use Rattle.me_disk.specs.declared.depot.DepotFault.{DepotFault}
use Rattle.part_tree.specs.declared.plan.Patch.{Patch}
use Rattle.me_disk.specs.Disk.{Disk, read_as, bytes_of}
use Rattle.me_disk.specs.Steps.{Writes, ReadsOnly}
use Rattle.edit_journal.specs.Strips.{Strip, laid_by}
use Rattle.edit_journal.specs.Journal.{Journal}
use Rattle.edit_journal.specs.Damage.{test, first, unless, lacks, number, damage, damage_over}
use Rattle.edit_journal.specs.Patches.{patches_in}
use Rattle.edit_journal.specs.declared.next.Cursor.{Cursor}
use Rattle.edit_journal.specs.declared.next.PatchAt.{PatchAt}
use Rattle.edit_journal.specs.Cursors.{IsNext}
use Rattle.edit_journal.proofs.Laws.{journal_bytes}
use Rattle.edit_journal.proofs.Walk.{over_whole, whole_damage}
use Rattle.recovery.specs.declared.whole.Recovered.{Recovered}
use Rattle.recovery.specs.declared.whole.RecoverFault.{RecoverFault}
use Rattle.recovery.specs.declared.whole.RecoverFault.TheVariants.{NoFile, Damaged, Depot}
use Rattle.recovery.specs.Redo.{patches_of, Redo, Lefts}
use Rattle.recovery.specs.Recovered.{OnRecoverDamage, IsBroken, bytes_over, bytes_to_redo, RecoverWrites}
use Rattle.part_tree.specs.Patches.{all_bytes}

-- ---- one call after another

pub writes_then : (n : ℕ) (a b c : Disk) (x : Unit {0}) (r : Result Unit DepotFault) → Writes {T = Unit {0}} n a b (Ok x) → Writes 0 b c r → Writes n a c r
writes_then n a b c x (Ok y) p q = record { least = omega (arith, p.least, q.least); most = omega (arith, p.exact, q.exact); exact = omega (arith, p.exact, q.exact) }
writes_then n a b c x (Err e) p q = record { least = omega (arith, p.least, q.least); most = omega (arith, p.exact, q.most); exact = tt }

pub writes_same : (n : ℕ) (a b c : Disk) (x : Unit {0}) (r : Result Unit DepotFault) → Writes {T = Unit {0}} n a b (Ok x) → c.written ≡ b.written → Writes n a c r
writes_same n a b c x (Ok y) p same = record { least = omega (arith, p.least, same); most = omega (arith, p.exact, same); exact = omega (arith, p.exact, same) }
writes_same n a b c x (Err e) p same = record { least = omega (arith, p.least, same); most = omega (arith, p.exact, same); exact = tt }

-- nothing was written before it
pub writes_late : (n : ℕ) (a b c : Disk) (r : Result Unit DepotFault) → b.written ≡ a.written → Writes n b c r → Writes n a c r
writes_late n a b c (Ok x) same p = record { least = omega (arith, p.least, same); most = omega (arith, p.most, same); exact = omega (arith, p.exact, same) }
writes_late n a b c (Err e) same p = record { least = omega (arith, p.least, same); most = omega (arith, p.most, same); exact = tt }

-- ---- while the patches are laid

next_most : (q : PatchAt) (ps : List Strip) (j : List ℕ) (c : Cursor) → IsNext (Some q) ps j c → q.len ≤ all_bytes (laid_by ps)
next_most q [] j c next = absurd next
next_most q (p ∷ ps) j c next = let len = next.0.len in omega arith

pub left_most : (w : Redo) (c c' : Cursor) (q : PatchAt) (before : ℕ) (d : Disk) (l : Lefts w c before d) → IsNext (Some q) l.left w.journal c' → d.written + q.len ≤ before + all_bytes (patches_of w)
left_most w c c' q before d l next = let h = next_most q l.left w.journal c' next in omega (arith, h, l.written)

pub laying_failed : (w : Redo) (c : Cursor) (a d d' : Disk) (e : DepotFault) → a.written ≤ d.written → Lefts w c a.written d → d'.written ≡ d.written → Writes {T = Unit {0}} (all_bytes (patches_of w)) a d' (Err e)
laying_failed w c a d d' e least l same = record { least = omega (arith, least, same); most = omega (arith, l.written, same); exact = tt }

pub patch_failed : (w : Redo) (c c' : Cursor) (q : PatchAt) (a d d' d'' : Disk) (e : DepotFault) → a.written ≤ d.written → (l : Lefts w c a.written d) → IsNext (Some q) l.left w.journal c' → d'.written ≡ d.written
    → Writes {T = Unit {0}} q.len d' d'' (Err e) → Writes {T = Unit {0}} (all_bytes (patches_of w)) a d'' (Err e)
patch_failed w c c' q a d d' d'' e least l next same far =
    let h = left_most w c c' q a.written d l next in
    record { least = omega (arith, least, same, far.least); most = omega (arith, h, same, far.most); exact = tt }

-- ---- what a recovery of an image has to write

pub redo_bytes : (m : Option (List ℕ)) (j : Option (List ℕ)) (old new : ℕ) (ps : List Patch) → IsSome j → Journal (bytes_of j) old new ps → damage_over m (bytes_of j) ≡ None → bytes_over m j ≡ all_bytes ps
redo_bytes m None old new ps there journal whole = absurd cc
redo_bytes m (Some j) old new ps there journal whole =
    ap (λ (d : Option ℕ). if is_some d then 0 else all_bytes (patches_in j)) whole ∙ journal_bytes j old new ps journal

pub broken_bytes : (m : Option (List ℕ)) (j : Option (List ℕ)) (at : ℕ) → damage_over m (bytes_of j) ≡ Some at → bytes_over m j ≡ 0
broken_bytes m None at broken = refl
broken_bytes m (Some j) at broken = ap (λ (d : Option ℕ). if is_some d then 0 else all_bytes (patches_in j)) broken

absent_broken : (j : List ℕ) → is_some (damage_over None j) ≡ true
unfolding damage_over
absent_broken j = go (damage j)
  where
    go : (d : Option ℕ) → is_some (unless d (λ _. first (test (lacks None (min (number 8 4 (take 24 j)) (number 8 12 (take 24 j)))) (length j) ∷ []) (λ _. None))) ≡ true
    go None = refl
    go (Some at) = refl

pub absent_bytes : (m : Option (List ℕ)) (j : Option (List ℕ)) → m ≡ None → bytes_over m j ≡ 0
absent_bytes m None is = refl
absent_bytes m (Some j) is =
    ap (λ (x : Option (List ℕ)). if is_some (damage_over x j) then 0 else all_bytes (patches_in j)) is ∙ ap (λ (b : Bool). if b then 0 else all_bytes (patches_in j)) (absent_broken j)

pub plain_bytes : (m : Option (List ℕ)) (j : Option (List ℕ)) → j ≡ None → bytes_over m j ≡ 0
plain_bytes m j is = ap (λ (x : Option (List ℕ)). bytes_over m x) is

-- ---- the answers

-- only reads, where there was nothing to write
pub refused_writes : (n : ℕ) (a b : Disk) (r : Result Recovered RecoverFault) → ReadsOnly a b → n ≡ 0 → RecoverWrites n a b r
refused_writes n a b r reads none = let same = reads.written in record { least = omega arith; most = omega arith; exact = λ h. omega arith }

pub failed_writes : (n : ℕ) (a b : Disk) → ReadsOnly a b → RecoverWrites n a b (Err Depot)
failed_writes n a b reads = let same = reads.written in record { least = omega arith; most = omega arith; exact = λ h. absurd (h refl) }

pub done_writes : (n : ℕ) (a b c : Disk) (x : Unit {0}) (y : Recovered) → b.written ≡ a.written → Writes {T = Unit {0}} n b c (Ok x) → RecoverWrites n a c (Ok y)
done_writes n a b c x y same w = record { least = omega (arith, w.least, same); most = omega (arith, w.most, same); exact = λ h. omega (arith, w.exact, same) }

pub stopped_writes : (n : ℕ) (a b c : Disk) (e : DepotFault) → b.written ≡ a.written → Writes {T = Unit {0}} n b c (Err e) → RecoverWrites n a c (Err Depot)
stopped_writes n a b c e same w = record { least = omega (arith, w.least, same); most = omega (arith, w.most, same); exact = λ h. absurd (h refl) }

pub sound_bytes : (m j : List ℕ) (old new : ℕ) (ps : List Patch) → Journal j old new ps → min old new ≤ length m → bytes_over (Some m) (Some j) ≡ all_bytes ps
sound_bytes m j old new ps journal long = redo_bytes (Some m) (Some j) old new ps refl journal (over_whole (Some m) j old new ps journal (whole_damage j old new ps journal) refl long)

pub err_writes : (a b : Disk) (e : RecoverFault) → IsTrue a.tells → ReadsOnly a b → (e ≡ NoFile → IsTrue a.tells → a.slots.main ≡ None) → OnRecoverDamage e (λ at. IsTrue a.tells → IsBroken a.slots at)
    → RecoverWrites (bytes_to_redo (read_as a.slots)) a b (Err e)
err_writes a b NoFile tells reads absent broken = refused_writes (bytes_to_redo (read_as a.slots)) a b (Err NoFile) reads (absent_bytes a.slots.main a.slots.journal (absent refl tells))
err_writes a b (Damaged at) tells reads absent broken = refused_writes (bytes_to_redo (read_as a.slots)) a b (Err (Damaged at)) reads (broken_bytes a.slots.main a.slots.journal at (broken tells).place)
err_writes a b Depot tells reads absent broken = failed_writes (bytes_to_redo (read_as a.slots)) a b reads
