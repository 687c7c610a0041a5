-- What is counted and appended piece by piece is the spelling of all.
use Rattle.std.proofs.Common.{◌≡◌, ℕ, zero, suc, ◌+◌, ◌≤◌, ◌<◌, ◌^◌, Bool, true, false, List, [], ◌∷◌, ◌++◌, length, take, drop, get_or, refl, sym, ◌∙◌, ap, arith, append_assoc, append-nil, length-append}
use Rattle.std.specs.Prelude.{if◌then◌else◌}
use Rattle.std.proofs.lemmas.List.{take_more, length-replicate}
use Rattle.std.proofs.lemmas.Grind.{flat_map-append}
use Rattle.me_bytes.specs.Bytes.{le_bytes}
use Rattle.part_tree.specs.declared.plan.Patch.{Patch}
use Rattle.part_tree.specs.Patches.{end_of, all_bytes}
use Rattle.edit_journal.specs.Strips.{Piece, Strip, AllEndLow, piece_of, cut, placed, strips}
use Rattle.edit_journal.specs.Journal.{spelled_strip, spelled_strips}
use Rattle.edit_journal.specs.Journal.Version.{Second}
use Rattle.edit_journal.proofs.Cuts.{length-placed}
use Rattle.edit_journal.proofs.Runs.{cut_none}

-- ---- appended one after another

pub four_put : (a b c d e w x y z : List ℕ) → b ≡ a ++ w → c ≡ b ++ x → d ≡ c ++ y → e ≡ d ++ z → e ≡ a ++ (w ++ (x ++ (y ++ z)))
four_put a b c d e w x y z one two three four =
    four ∙ ap (λ (l : List ℕ). l ++ z) three ∙ append_assoc c y z ∙ ap (λ (l : List ℕ). l ++ (y ++ z)) two ∙ append_assoc b x (y ++ z)
    ∙ ap (λ (l : List ℕ). l ++ (x ++ (y ++ z))) one ∙ append_assoc a w (x ++ (y ++ z))

-- one strip: place, length, kind, and what tells its bytes
pub strip_put : (a b c d e : List ℕ) (at : ℕ) (bytes : List ℕ) (run : Bool) → 0 < length bytes → b ≡ a ++ le_bytes 8 at → c ≡ b ++ le_bytes 4 (length bytes) → d ≡ c ++ (if run then 1 else 0) ∷ []
    → e ≡ d ++ (if run then take 1 bytes else bytes) → e ≡ a ++ spelled_strip Second (record { at = at; piece = piece_of run bytes })
strip_put a b c d e at bytes run some one two three four = four_put a b c d e (le_bytes 8 at) (le_bytes 4 (length bytes)) ((if run then 1 else 0) ∷ []) (if run then take 1 bytes else bytes) one two three four ∙ go run bytes some
  where
    go : (t : Bool) (l : List ℕ) → 0 < length l
        → a ++ (le_bytes 8 at ++ (le_bytes 4 (length l) ++ ((if t then 1 else 0) ∷ [] ++ (if t then take 1 l else l)))) ≡ a ++ spelled_strip Second (record { at = at; piece = piece_of t l })
    go true [] low = absurd (omega arith)
    go true (x ∷ l) low = ap (λ (n : ℕ). a ++ (le_bytes 8 at ++ (le_bytes 4 n ++ (1 ∷ x ∷ [])))) (sym (length-replicate (suc (length l)) x))
    go false l low = refl

-- ---- the strips of one patch

pub patch_put : (a out : List ℕ) (at from : ℕ) (bytes : List ℕ) → out ++ spelled_strips Second (placed (at + from) (cut (drop from bytes))) ≡ a ++ spelled_strips Second (placed at (cut bytes))
    → length bytes ≤ from → out ≡ a ++ spelled_strips Second (placed at (cut bytes))
patch_put a out at from bytes is past =
    sym (append-nil out) ∙ ap (λ (ps : List Piece). out ++ spelled_strips Second (placed (at + from) ps)) (sym (cut_none bytes from past)) ∙ is

-- ---- the strips of all patches

pub strips_more : (ps : List Patch) (i : ℕ) (p : Patch) → i < length ps → p ≡ get_or ps i p → strips (take (i + 1) ps) ≡ strips (take i ps) ++ placed p.at (cut p.bytes)
strips_more ps i p low is =
    ap strips (take_more ps i p low ∙ ap (λ (q : Patch). take i ps ++ q ∷ []) (sym is))
    ∙ flat_map-append (λ (q : Patch). placed q.at (cut q.bytes)) (take i ps) (p ∷ [])
    ∙ ap (λ (l : List Strip). strips (take i ps) ++ l) (append-nil (placed p.at (cut p.bytes)))

pub strips_count : (ps : List Patch) (i : ℕ) (p : Patch) → i < length ps → p ≡ get_or ps i p → length (strips (take (i + 1) ps)) ≡ length (strips (take i ps)) + length (cut p.bytes)
strips_count ps i p low is =
    ap (λ (l : List Strip). length l) (strips_more ps i p low is) ∙ length-append (strips (take i ps)) (placed p.at (cut p.bytes)) ∙ ap (λ (n : ℕ). length (strips (take i ps)) + n) (length-placed p.at (cut p.bytes))

pub patches_put : (a b c : List ℕ) (ps : List Patch) (i : ℕ) (p : Patch) → i < length ps → p ≡ get_or ps i p → b ≡ a ++ spelled_strips Second (strips (take i ps))
    → c ≡ b ++ spelled_strips Second (placed p.at (cut p.bytes)) → c ≡ a ++ spelled_strips Second (strips (take (i + 1) ps))
patches_put a b c ps i p low is before here =
    here ∙ ap (λ (l : List ℕ). l ++ spelled_strips Second (placed p.at (cut p.bytes))) before ∙ append_assoc a (spelled_strips Second (strips (take i ps))) (spelled_strips Second (placed p.at (cut p.bytes)))
    ∙ ap (λ (l : List ℕ). a ++ l) (sym (flat_map-append (spelled_strip Second) (strips (take i ps)) (placed p.at (cut p.bytes)))) ∙ ap (λ (ss : List Strip). a ++ spelled_strips Second ss) (sym (strips_more ps i p low is))

bytes-append : (ps qs : List Patch) → all_bytes (ps ++ qs) ≡ all_bytes ps + all_bytes qs
bytes-append [] qs = omega arith
bytes-append (p ∷ ps) qs = let h = bytes-append ps qs in omega arith

-- the bytes of the patches so far, and of one more
pub bytes_more : (ps : List Patch) (i : ℕ) (p : Patch) → i < length ps → p ≡ get_or ps i p → all_bytes (take (i + 1) ps) ≡ all_bytes (take i ps) + length p.bytes
bytes_more ps i p low is =
    let h = bytes-append (take i ps) (p ∷ []) in
    ap all_bytes (take_more ps i p low ∙ ap (λ (q : Patch). take i ps ++ q ∷ []) (sym is)) ∙ omega arith

pub bytes_below : (ps : List Patch) (i : ℕ) → all_bytes (take i ps) ≤ all_bytes ps
bytes_below ps zero = omega arith
bytes_below [] (suc i) = omega arith
bytes_below (p ∷ ps) (suc i) = let h = bytes_below ps i in omega arith

pub low_at : (ps : List Patch) (i : ℕ) (p : Patch) → i < length ps → AllEndLow ps → end_of (get_or ps i p) < 2 ^ 63
low_at [] i p low all = absurd (omega arith)
low_at (q ∷ ps) zero p low all = all.0
low_at (q ∷ ps) (suc i) p low all = low_at ps i p (omega arith) all.1
