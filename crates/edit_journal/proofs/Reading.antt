-- The numbers of a strip, read from its spelling and spelled from what was read.
use Rattle.std.proofs.Common.{◌≡◌, ⊎_elim, ℕ, zero, suc, ◌+◌, ◌-◌, ◌≤◌, ◌<◌, ◌^◌, Bool, true, false, List, [], ◌∷◌, ◌++◌, length, take, drop, get_or, refl, sym, ◌∙◌, ap, subst, arith, length-take, length-drop, append_assoc, take-append-drop}
use Rattle.std.specs.Prelude.{◌==◌, if◌then◌else◌}
use Rattle.std.proofs.lemmas.Bool.{cases_lt, eqb-true, eqb-false}
use Rattle.std.proofs.lemmas.List.{get_or-take, get_or-drop, get_or_past, drop-take, take-take, drop-drop, take_all, take_at, drop_at, length-replicate}
use Rattle.me_bytes.specs.Bytes.{le, le_bytes, IsBytes}
use Rattle.me_bytes.proofs.Laws.{le-le_bytes, le_bytes-le}
use Rattle.edit_journal.specs.declared.strip.StripHead.{StripHead}
use Rattle.edit_journal.specs.Strips.{Piece, Strip, written_out, patch_of}
use Rattle.edit_journal.specs.Strips.Piece.{Plain, Run}
use Rattle.edit_journal.specs.Journal.{Version, head, magic, kind_of, strip_head, told, spelled_strip}
use Rattle.edit_journal.specs.Journal.Version.{First, Second}
use Rattle.edit_journal.specs.Damage.{number, head_len, kind_in, header, body_len, strip_len}
use Rattle.edit_journal.specs.Patches.{piece_in, strip_in}

-- ---- numbers that were read are the spelling of what was read

bytes-take : (n : ℕ) (l : List ℕ) → IsBytes l → IsBytes (take n l)
bytes-take n l h i =
    ⊎_elim (λ (low : i < n). subst (λ (x : ℕ). x < 256) (sym (get_or-take n l i 0 low)) (h i))
    (λ (high : n ≤ i). subst (λ (x : ℕ). x < 256) (sym (get_or_past (take n l) i 0 (omega (arith, length-take n l)))) (omega arith)) (cases_lt i n)

bytes-drop : (n : ℕ) (l : List ℕ) → IsBytes l → IsBytes (drop n l)
bytes-drop n l h i = subst (λ (x : ℕ). x < 256) (sym (get_or-drop n l i 0)) (h (n + i))

pub spelled_number : (n at : ℕ) (l : List ℕ) → IsBytes l → at + n ≤ length l → le_bytes n (number n at l) ≡ take n (drop at l)
spelled_number n at l bytes inside =
    let part = take n (drop at l) in
    let size : length part ≡ n = omega (arith, length-take n (drop at l), length-drop at l) in
    ap (λ (k : ℕ). le_bytes k (le part)) (sym size) ∙ le_bytes-le part (bytes-take n (drop at l) (bytes-drop at l bytes))

pub cut_same : (n d len : ℕ) (xs : List ℕ) → d + n ≤ len → take n (drop d (take len xs)) ≡ take n (drop d xs)
cut_same n d len xs inside =
    let e : d + (len - d) ≡ len = omega arith in
    ap (λ (k : ℕ). take n (drop d (take k xs))) (sym e) ∙ ap (λ (l : List ℕ). take n l) (drop-take d (len - d) xs) ∙ take-take n (len - d) (drop d xs) (omega arith)

pub head_read : (v : Version) (h : List ℕ) → length h ≡ 24 → IsBytes h → take 4 h ≡ magic v → h ≡ head v (number 8 4 h) (number 8 12 h) (number 4 20 h)
head_read v h size bytes is_magic =
    let one = spelled_number 8 4 h bytes (omega (arith, size)) in
    let two = spelled_number 8 12 h bytes (omega (arith, size)) in
    let three = spelled_number 4 20 h bytes (omega (arith, size)) in
    let all : take 4 (drop 20 h) ≡ drop 20 h = take_all 4 (drop 20 h) (omega (arith, length-drop 20 h, size)) in
    let tail : le_bytes 8 (number 8 12 h) ++ le_bytes 4 (number 4 20 h) ≡ drop 12 h =
    ap (λ (x : List ℕ). x ++ le_bytes 4 (number 4 20 h)) two ∙ ap (λ (x : List ℕ). take 8 (drop 12 h) ++ x) (three ∙ all ∙ sym (drop-drop 8 12 h)) ∙ take-append-drop 8 (drop 12 h) in
    let middle : le_bytes 8 (number 8 4 h) ++ (le_bytes 8 (number 8 12 h) ++ le_bytes 4 (number 4 20 h)) ≡ drop 4 h =
    ap (λ (x : List ℕ). x ++ (le_bytes 8 (number 8 12 h) ++ le_bytes 4 (number 4 20 h))) one ∙ ap (λ (x : List ℕ). take 8 (drop 4 h) ++ x) (tail ∙ sym (drop-drop 8 4 h)) ∙ take-append-drop 8 (drop 4 h) in
    sym (ap (λ (x : List ℕ). x ++ (le_bytes 8 (number 8 4 h) ++ (le_bytes 8 (number 8 12 h) ++ le_bytes 4 (number 4 20 h)))) (sym is_magic) ∙ ap (λ (x : List ℕ). take 4 h ++ x) middle ∙ take-append-drop 4 h)

-- ---- the header of a strip

-- place and length
twelve_read : (h : List ℕ) → IsBytes (take 12 h) → 12 ≤ length h → le_bytes 8 (number 8 0 h) ++ le_bytes 4 (number 4 8 h) ≡ take 12 h
twelve_read h bytes long =
    let t = take 12 h in
    let size : length t ≡ 12 = omega (arith, length-take 12 h) in
    let one : le_bytes 8 (number 8 0 h) ≡ take 8 t =
    ap (λ (l : List ℕ). le_bytes 8 (le l)) (sym (cut_same 8 0 12 h (omega arith))) ∙ spelled_number 8 0 t bytes (omega (arith, size)) in
    let two : le_bytes 4 (number 4 8 h) ≡ take 4 (drop 8 t) =
    ap (λ (l : List ℕ). le_bytes 4 (le l)) (sym (cut_same 4 8 12 h (omega arith))) ∙ spelled_number 4 8 t bytes (omega (arith, size)) in
    let all : take 4 (drop 8 t) ≡ drop 8 t = take_all 4 (drop 8 t) (omega (arith, length-drop 8 t, size)) in
    ap (λ (x : List ℕ). x ++ le_bytes 4 (number 4 8 h)) one ∙ ap (λ (x : List ℕ). take 8 t ++ x) (two ∙ all) ∙ take-append-drop 8 t

-- one byte more
take_one : (n : ℕ) (h : List ℕ) → n < length h → take n h ++ get_or h n 0 ∷ [] ≡ take (suc n) h
take_one n [] low = absurd (omega arith)
take_one zero (x ∷ h) low = refl
take_one (suc n) (x ∷ h) low = ap (λ (l : List ℕ). x ∷ l) (take_one n h (omega arith))

front_read : (v : Version) (b : List ℕ) → IsBytes (take (head_len v) b) → head_len v ≤ length b → strip_head v (header v b).place (header v b).len (header v b).kind ≡ take (head_len v) b
front_read First b bytes long = twelve_read b bytes long
front_read Second b bytes long =
    let low = bytes-take 12 (take 13 b) bytes in
    let twelve : IsBytes (take 12 b) = subst (λ (l : List ℕ). IsBytes l) (take-take 12 13 b (omega arith)) low in
    ap (λ (l : List ℕ). l ++ get_or b 12 0 ∷ []) (twelve_read b twelve (omega arith)) ∙ take_one 12 b (omega arith)

-- ---- what stands behind it

pub piece_len : (s : StripHead) (rest : List ℕ) → body_len s ≤ length rest → length (written_out (piece_in s rest)) ≡ s.len
piece_len s rest inside = go (s.kind == 1) inside
  where
    go : (t : Bool) → (if t then 1 else s.len) ≤ length rest → length (written_out (if t then Run (get_or rest 0 0) s.len else Plain (take s.len rest))) ≡ s.len
    go true h = length-replicate s.len (get_or rest 0 0)
    go false h = omega (arith, length-take s.len rest)

piece_kind : (s : StripHead) (rest : List ℕ) → s.kind ≤ 1 → kind_of (piece_in s rest) ≡ s.kind
piece_kind s rest low = go (s.kind == 1) refl
  where
    go : (t : Bool) → (s.kind == 1) ≡ t → kind_of (if t then Run (get_or rest 0 0) s.len else Plain (take s.len rest)) ≡ s.kind
    go true is = sym (eqb-true s.kind 1 is)
    go false is = let other = eqb-false s.kind 1 is in omega arith

one_read : (rest : List ℕ) → 1 ≤ length rest → get_or rest 0 0 ∷ [] ≡ take 1 rest
one_read [] long = absurd (omega arith)
one_read (x ∷ rest) long = refl

told_read : (v : Version) (b rest : List ℕ) → body_len (header v b) ≤ length rest → told v (piece_in (header v b) rest) ≡ take (body_len (header v b)) rest
told_read First b rest inside = refl
told_read Second b rest inside = go (get_or b 12 0 == 1) inside
  where
    go : (t : Bool) → (if t then 1 else number 4 8 b) ≤ length rest → told Second (if t then Run (get_or rest 0 0) (number 4 8 b) else Plain (take (number 4 8 b) rest)) ≡ take (if t then 1 else number 4 8 b) rest
    go true h = one_read rest h
    go false h = refl

head_same : (v : Version) (s : StripHead) (n k : ℕ) → n ≡ s.len → k ≡ s.kind → strip_head v s.place n k ≡ strip_head v s.place s.len s.kind
head_same v s n k is_len is_kind = λ i. strip_head v s.place (is_len i) (is_kind i)

-- the strip that was read is spelled at the front
pub strip_spelled : (v : Version) (b : List ℕ) → IsBytes (take (head_len v) b) → (header v b).kind ≤ 1 → strip_len v (header v b) ≤ length b → spelled_strip v (strip_in v b) ++ drop (strip_len v (header v b)) b ≡ b
strip_spelled v b bytes low inside =
    let s = header v b in
    let n = head_len v in
    let m = body_len s in
    let rest = drop n b in
    let long : n ≤ length b = omega arith in
    let body : m ≤ length rest = omega (arith, length-drop n b) in
    let front : strip_head v s.place (length (written_out (piece_in s rest))) (kind_of (piece_in s rest)) ≡ take n b =
    head_same v s (length (written_out (piece_in s rest))) (kind_of (piece_in s rest)) (piece_len s rest body) (piece_kind s rest low) ∙ front_read v b bytes long in
    append_assoc (strip_head v s.place (length (written_out (piece_in s rest))) (kind_of (piece_in s rest))) (told v (piece_in s rest)) (drop (n + m) b)
    ∙ (λ i. front i ++ (told_read v b rest body i ++ sym (drop-drop m n b) i))
    ∙ ap (λ (x : List ℕ). take n b ++ x) (take-append-drop m rest)
    ∙ take-append-drop n b

-- ---- and back

-- the kind as a version tells it
abbrev pub kind_as : Version → Piece → ℕ
kind_as First p = 0
kind_as Second p = kind_of p

-- the header of a strip's spelling
abbrev pub head_of : Version → Strip → StripHead
head_of v s = record { place = s.at; len = length (written_out s.piece); kind = kind_as v s.piece }

pub place_read : (v : Version) (s : Strip) (rest : List ℕ) → s.at < 256 ^ 8 → number 8 0 (spelled_strip v s ++ rest) ≡ s.at
place_read First s rest small = le-le_bytes 8 s.at small
place_read Second s rest small = le-le_bytes 8 s.at small

pub len_read : (v : Version) (s : Strip) (rest : List ℕ) → length (written_out s.piece) < 256 ^ 4 → number 4 8 (spelled_strip v s ++ rest) ≡ length (written_out s.piece)
len_read First s rest small = le-le_bytes 4 (length (written_out s.piece)) small
len_read Second s rest small = le-le_bytes 4 (length (written_out s.piece)) small

kind_read : (v : Version) (s : Strip) (rest : List ℕ) → kind_in v (spelled_strip v s ++ rest) ≡ kind_as v s.piece
kind_read First s rest = refl
kind_read Second s rest = refl

pub header_read : (v : Version) (s : Strip) (rest : List ℕ) → s.at < 256 ^ 8 → length (written_out s.piece) < 256 ^ 4 → header v (spelled_strip v s ++ rest) ≡ head_of v s
header_read v s rest low small = λ i. record { place = place_read v s rest low i; len = len_read v s rest small i; kind = kind_read v s rest i }

pub strip_size : (v : Version) (s : Strip) → strip_len v (head_of v s) ≡ length (spelled_strip v s)
strip_size First s = omega arith
strip_size Second s = go s.piece
  where
    go : (p : Piece) → 13 + body_len (record { place = s.at; len = length (written_out p); kind = kind_of p }) ≡ length (spelled_strip Second (record { at = s.at; piece = p }))
    go (Plain b) = omega arith
    go (Run x n) = refl

pub rest_read : (v : Version) (s : Strip) (rest : List ℕ) → drop (strip_len v (head_of v s)) (spelled_strip v s ++ rest) ≡ rest
rest_read v s rest = drop_at (spelled_strip v s) rest (strip_len v (head_of v s)) (sym (strip_size v s))

-- the piece behind the header
pub piece_read : (s : Strip) (rest : List ℕ) → piece_in (head_of Second s) (told Second s.piece ++ rest) ≡ s.piece
piece_read s rest = go s.piece
  where
    go : (p : Piece) → piece_in (record { place = s.at; len = length (written_out p); kind = kind_of p }) (told Second p ++ rest) ≡ p
    go (Plain b) = ap (λ (x : List ℕ). Plain x) (take_at b rest (length b) refl)
    go (Run x n) = ap (λ (k : ℕ). Run x k) (length-replicate n x)

pub body_behind : (v : Version) (s : Strip) (rest : List ℕ) → drop (head_len v) (spelled_strip v s ++ rest) ≡ told v s.piece ++ rest
body_behind First s rest = refl
body_behind Second s rest = refl

pub strip_read : (s : Strip) (rest : List ℕ) → s.at < 256 ^ 8 → length (written_out s.piece) < 256 ^ 4 → strip_in Second (spelled_strip Second s ++ rest) ≡ s
strip_read s rest low small =
    (λ i. record { at = (header_read Second s rest low small i).place; piece = piece_in (header_read Second s rest low small i) (body_behind Second s rest i) })
    ∙ (λ i. record { at = s.at; piece = piece_read s rest i })

pub patch_read : (v : Version) (s : Strip) (rest : List ℕ) → s.at < 256 ^ 8 → length (written_out s.piece) < 256 ^ 4 → patch_of (strip_in v (spelled_strip v s ++ rest)) ≡ patch_of s
patch_read First s rest low small =
    (λ i. record { at = (header_read First s rest low small i).place; bytes = take (header_read First s rest low small i).len (body_behind First s rest i) })
    ∙ (λ i. record { at = s.at; bytes = take_at (written_out s.piece) rest (length (written_out s.piece)) refl i })
patch_read Second s rest low small = ap patch_of (strip_read s rest low small)
