-- Patches cut into strips lay the same.
use Rattle.std.proofs.Common.{◌≡◌, ℕ, suc, ◌+◌, ◌*◌, ◌≤◌, ◌<◌, Bool, true, false, List, [], ◌∷◌, ◌++◌, length, replicate, refl, sym, ◌∙◌, ap, subst, arith, length-append, append_assoc, add-one}
use Rattle.std.specs.Prelude.{◌==◌, nat_lt, if◌then◌else◌, ⊤}
use Rattle.std.specs.List.{flat_map}
use Rattle.std.proofs.lemmas.Bool.{eqb-true, ltb-false}
use Rattle.std.proofs.lemmas.List.{length-replicate, map-append}
use Rattle.part_tree.specs.declared.plan.Patch.{Patch}
use Rattle.part_tree.specs.Patches.{end_of, InOrder, all_bytes}
use Rattle.edit_journal.specs.Strips.{Piece, Stretch, written_out, patch_of, laid_by, byte_at, longer, maximal_runs, least_run, joined, pieces, cut, placed, strips}
use Rattle.edit_journal.specs.Strips.Piece.{Plain, Run}
use Rattle.edit_journal.proofs.Lays.{byte_empty, byte_same, byte_split}

-- ---- the pieces have all the bytes

-- the bytes of some pieces
abbrev pub bytes_in : List Piece → List ℕ
bytes_in ps = flat_map written_out ps

abbrev stretch_bytes : Stretch → List ℕ
stretch_bytes r = replicate r.times r.byte

longer_bytes : (x : ℕ) (rs : List Stretch) → flat_map stretch_bytes (longer x rs) ≡ x ∷ flat_map stretch_bytes rs
longer_bytes x [] = refl
longer_bytes x (r ∷ rs) = go (x == r.byte) refl
  where
    go : (t : Bool) → (x == r.byte) ≡ t → flat_map stretch_bytes (if t then record { byte = x; times = r.times + 1 } ∷ rs else record { byte = x; times = 1 } ∷ r ∷ rs) ≡ x ∷ flat_map stretch_bytes (r ∷ rs)
    go true is = ap (λ (n : ℕ). replicate n x ++ flat_map stretch_bytes rs) (add-one r.times) ∙ ap (λ (y : ℕ). x ∷ (replicate r.times y ++ flat_map stretch_bytes rs)) (eqb-true x r.byte is)
    go false is = refl

runs_bytes : (b : List ℕ) → flat_map stretch_bytes (maximal_runs b) ≡ b
runs_bytes [] = refl
runs_bytes (x ∷ xs) = longer_bytes x (maximal_runs xs) ∙ ap (λ (l : List ℕ). x ∷ l) (runs_bytes xs)

joined_bytes : (b : List ℕ) (ps : List Piece) → bytes_in (joined b ps) ≡ b ++ bytes_in ps
joined_bytes b [] = refl
joined_bytes b (Plain c ∷ ps) = append_assoc b c (bytes_in ps)
joined_bytes b (Run x n ∷ ps) = refl

pieces_bytes : (rs : List Stretch) → bytes_in (pieces rs) ≡ flat_map stretch_bytes rs
pieces_bytes [] = refl
pieces_bytes (r ∷ rs) = go (pieces_bytes rs) (nat_lt r.times least_run)
  where
    go : bytes_in (pieces rs) ≡ flat_map stretch_bytes rs → (t : Bool) → bytes_in (if t then joined (stretch_bytes r) (pieces rs) else Run r.byte r.times ∷ pieces rs) ≡ stretch_bytes r ++ flat_map stretch_bytes rs
    go rest true = joined_bytes (stretch_bytes r) (pieces rs) ∙ ap (λ (l : List ℕ). stretch_bytes r ++ l) rest
    go rest false = ap (λ (l : List ℕ). stretch_bytes r ++ l) rest

pub cut_bytes : (b : List ℕ) → bytes_in (cut b) ≡ b
unfolding cut
cut_bytes b = pieces_bytes (maximal_runs b) ∙ runs_bytes b

-- ---- none of them is empty

abbrev AllSome : List Piece → Type 0
AllSome [] = ⊤
AllSome (p ∷ ps) = (0 < length (written_out p)) × AllSome ps

abbrev AllTimes : List Stretch → Type 0
AllTimes [] = ⊤
AllTimes (r ∷ rs) = (0 < r.times) × AllTimes rs

longer_some : (x : ℕ) (rs : List Stretch) → AllTimes rs → AllTimes (longer x rs)
longer_some x [] h = (omega arith, tt)
longer_some x (r ∷ rs) h = go (x == r.byte)
  where
    go : (t : Bool) → AllTimes (if t then record { byte = x; times = r.times + 1 } ∷ rs else record { byte = x; times = 1 } ∷ r ∷ rs)
    go true = (omega arith, h.1)
    go false = (omega arith, h)

runs_some : (b : List ℕ) → AllTimes (maximal_runs b)
runs_some [] = tt
runs_some (x ∷ xs) = longer_some x (maximal_runs xs) (runs_some xs)

joined_some : (b : List ℕ) (ps : List Piece) → 0 < length b → AllSome ps → AllSome (joined b ps)
joined_some b [] some h = (some, tt)
joined_some b (Plain c ∷ ps) some h = (omega (arith, length-append b c), h.1)
joined_some b (Run x n ∷ ps) some h = (some, h)

pieces_some : (rs : List Stretch) → AllTimes rs → AllSome (pieces rs)
pieces_some [] h = tt
pieces_some (r ∷ rs) h = go (pieces_some rs h.1) (nat_lt r.times least_run)
  where
    some : 0 < length (stretch_bytes r)
    some = let n = h.0 in omega (arith, length-replicate r.times r.byte)

    go : AllSome (pieces rs) → (t : Bool) → AllSome (if t then joined (stretch_bytes r) (pieces rs) else Run r.byte r.times ∷ pieces rs)
    go rest true = joined_some (stretch_bytes r) (pieces rs) some rest
    go rest false = (some, rest)

cut_some : (b : List ℕ) → AllSome (cut b)
unfolding cut
cut_some b = pieces_some (maximal_runs b) (runs_some b)

-- ---- there are few

-- 32 for each, and 32 less where a long run stands first
weight : List Piece → ℕ
weight [] = 0
weight (Plain c ∷ ps) = 32 * length ps
weight (Run x n ∷ ps) = 32 * length ps + 32

weight_joined : (b : List ℕ) (ps : List Piece) → weight (joined b ps) ≤ weight ps
unfolding weight
weight_joined b [] = omega arith
weight_joined b (Plain c ∷ ps) = omega arith
weight_joined b (Run x n ∷ ps) = omega arith

weight_all : (ps : List Piece) → 32 * length ps ≤ weight ps + 32
unfolding weight
weight_all [] = omega arith
weight_all (Plain c ∷ ps) = omega arith
weight_all (Run x n ∷ ps) = omega arith

pieces_few : (rs : List Stretch) → weight (pieces rs) ≤ length (flat_map stretch_bytes rs)
unfolding weight
pieces_few [] = omega arith
pieces_few (r ∷ rs) = go (pieces_few rs) (nat_lt r.times least_run) refl
  where
    size : length (stretch_bytes r ++ flat_map stretch_bytes rs) ≡ r.times + length (flat_map stretch_bytes rs)
    size = length-append (stretch_bytes r) (flat_map stretch_bytes rs) ∙ ap (λ (n : ℕ). n + length (flat_map stretch_bytes rs)) (length-replicate r.times r.byte)

    go : weight (pieces rs) ≤ length (flat_map stretch_bytes rs) → (t : Bool) → nat_lt r.times least_run ≡ t → weight (if t then joined (stretch_bytes r) (pieces rs) else Run r.byte r.times ∷ pieces rs) ≤ length (stretch_bytes r ++ flat_map stretch_bytes rs)
    go h true is = let s = size in let j = weight_joined (stretch_bytes r) (pieces rs) in omega arith
    go h false is = let s = size in let long = ltb-false r.times least_run is in let all = weight_all (pieces rs) in omega arith

pub cut_few : (b : List ℕ) → 32 * length (cut b) ≤ 32 + length b
unfolding cut
cut_few b =
    let few = pieces_few (maximal_runs b) in
    let all = weight_all (pieces (maximal_runs b)) in
    let same = ap (λ (l : List ℕ). length l) (runs_bytes b) in omega arith

-- ---- strips

pub length-placed : (at : ℕ) (ps : List Piece) → length (placed at ps) ≡ length ps
length-placed at [] = refl
length-placed at (p ∷ ps) = ap suc (length-placed (at + length (written_out p)) ps)

pub strips_few : (ps : List Patch) → 32 * length (strips ps) ≤ 32 * length ps + all_bytes ps
strips_few [] = omega arith
strips_few (p ∷ ps) =
    let rest = strips_few ps in
    let here = cut_few p.bytes in
    let size = length-append (placed p.at (cut p.bytes)) (strips ps) in
    let one = length-placed p.at (cut p.bytes) in omega arith

-- the pieces lay what all their bytes lay
placed_lays : (q at : ℕ) (ps : List Piece) (more : List Patch) → byte_at q (laid_by (placed at ps) ++ more) ≡ byte_at q (record { at = at; bytes = bytes_in ps } ∷ more)
placed_lays q at [] more = sym (byte_empty q at more)
placed_lays q at (p ∷ ps) more =
    let n = length (written_out p) in
    byte_same q (record { at = at; bytes = written_out p }) (laid_by (placed (at + n) ps) ++ more) (record { at = at + n; bytes = bytes_in ps } ∷ more) (placed_lays q (at + n) ps more)
    ∙ sym (byte_split q at (written_out p) (bytes_in ps) more)

pub strips_lay : (q : ℕ) (ps : List Patch) → byte_at q (laid_by (strips ps)) ≡ byte_at q ps
strips_lay q [] = refl
strips_lay q (p ∷ ps) =
    ap (λ (l : List Patch). byte_at q l) (map-append patch_of (placed p.at (cut p.bytes)) (strips ps))
    ∙ placed_lays q p.at (cut p.bytes) (laid_by (strips ps))
    ∙ ap (λ (b : List ℕ). byte_at q (record { at = p.at; bytes = b } ∷ laid_by (strips ps))) (cut_bytes p.bytes)
    ∙ byte_same q p (laid_by (strips ps)) ps (strips_lay q ps)

order_earlier : (new end end' : ℕ) (ps : List Patch) → end' ≤ end → InOrder new end ps → InOrder new end' ps
order_earlier new end end' [] le order = tt
order_earlier new end end' (p ∷ ps) le order = let f = order.0 in (record { some = f.some; after = let a = f.after in omega arith; inside = f.inside }, order.1)

placed_order : (new end at : ℕ) (ps : List Piece) (more : List Patch) → AllSome ps → end ≤ at → at + length (bytes_in ps) ≤ new → InOrder new (at + length (bytes_in ps)) more → InOrder new end (laid_by (placed at ps) ++ more)
placed_order new end at [] more some low high order = order_earlier new (at + 0) end more (omega arith) order
placed_order new end at (p ∷ ps) more some low high order =
    let n = length (written_out p) in
    let size : length (written_out p ++ bytes_in ps) ≡ n + length (bytes_in ps) = length-append (written_out p) (bytes_in ps) in
    let e : at + length (written_out p ++ bytes_in ps) ≡ at + n + length (bytes_in ps) = omega arith in (
      record { some = some.0; after = low; inside = omega arith },
      placed_order new (at + n) (at + n) ps more some.1 (omega arith) (omega arith) (subst (λ (m : ℕ). InOrder new m more) e order),
    )

pub strips_order : (new end : ℕ) (ps : List Patch) → InOrder new end ps → InOrder new end (laid_by (strips ps))
strips_order new end [] order = tt
strips_order new end (p ∷ ps) order =
    let f = order.0 in
    let inside = f.inside in
    let after = f.after in
    let same : length (bytes_in (cut p.bytes)) ≡ length p.bytes = ap (λ (l : List ℕ). length l) (cut_bytes p.bytes) in
    let e : p.at + length p.bytes ≡ p.at + length (bytes_in (cut p.bytes)) = omega arith in
    subst (InOrder new end) (sym (map-append patch_of (placed p.at (cut p.bytes)) (strips ps)))
    (placed_order new end p.at (cut p.bytes) (laid_by (strips ps)) (cut_some p.bytes) after (omega arith)
    (subst (λ (m : ℕ). InOrder new m (laid_by (strips ps))) e (strips_order new (end_of p) ps order.1)))
