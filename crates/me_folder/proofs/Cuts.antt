-- What a power cut may leave, call by call.
use Rattle.std.proofs.Common.{◌≡◌, inl, ⊎_elim, ℕ, List, [], ◌∷◌, length, refl, sym, ap, subst}
use Rattle.std.specs.Prelude.{Bool, true, false, Option, Some, None, option_map}
use Rattle.std.proofs.Math.Nat.{not-suc-le_self}
use Rattle.me_disk.specs.Disk.{Image, read_as}
use Rattle.me_folder.specs.Files.{File, content, synced, made_safe, doubt, MayBecome}
use Rattle.me_folder.specs.Tree.{Name, Names, held_by, slots_in, FileLeaves, NameLeaves, CutLeaves, CutLeft}
use Rattle.me_folder.proofs.Bytes.{content-may}

-- ---- moments

pub counts_now : (now : Names) (past : List Names) (t : ℕ) (i : Image) → CutLeaves now i → CutLeft now past t i
counts_now now [] t i h = h
counts_now now (before ∷ past) t i h = inl h

pub only_now : (now : Names) (past : List Names) (i : Image) → CutLeft now past (length past) i → CutLeaves now i
only_now now [] i h = h
only_now now (before ∷ past) i h = ⊎_elim (λ here. here) (λ earlier. absurd (not-suc-le_self (length past) earlier.0)) h

-- ---- names

pub FileLeaves-content : (f : Option File) → FileLeaves f (option_map content f)
FileLeaves-content None = tt
FileLeaves-content (Some f) = content-may f.changes f.safe

-- a power cut may leave what a read gives
pub NameLeaves-held : (n : Name) → NameLeaves n (held_by n)
NameLeaves-held n = inl (FileLeaves-content n.now)

pub CutLeaves-read : (s : Names) → CutLeaves s (read_as (slots_in s))
CutLeaves-read s = record { main = NameLeaves-held s.main; journal = NameLeaves-held s.journal }

-- a file that is made safe leaves no more than before
synced_leaves : (b : Bool) (f : File) (l : List ℕ) → MayBecome (synced b f).changes (synced b f).safe l → MayBecome f.changes f.safe l
synced_leaves true f l h = h
synced_leaves false f l h = subst (MayBecome f.changes f.safe) (sym h) (content-may f.changes f.safe)

pub FileLeaves-safe : (f : Option File) (m : Option (List ℕ)) → FileLeaves (option_map made_safe f) m → FileLeaves f m
FileLeaves-safe None None h = h
FileLeaves-safe None (Some l) h = h
FileLeaves-safe (Some f) None h = h
FileLeaves-safe (Some f) (Some l) h = synced_leaves f.doubted f l h

-- and so does one that is in doubt
pub FileLeaves-doubt : (f : Option File) (m : Option (List ℕ)) → FileLeaves (option_map doubt f) m → FileLeaves f m
FileLeaves-doubt None None h = h
FileLeaves-doubt None (Some l) h = h
FileLeaves-doubt (Some f) None h = h
FileLeaves-doubt (Some f) (Some l) h = h

-- a read of them gives the same
synced_content : (b : Bool) (f : File) → content (synced b f) ≡ content f
synced_content true f = refl
synced_content false f = refl

pub safe_content : (f : Option File) → option_map content (option_map made_safe f) ≡ option_map content f
safe_content None = refl
safe_content (Some f) = ap Some (synced_content f.doubted f)

pub doubt_content : (f : Option File) → option_map content (option_map doubt f) ≡ option_map content f
doubt_content None = refl
doubt_content (Some f) = refl
