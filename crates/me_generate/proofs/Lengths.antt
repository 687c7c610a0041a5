-- How long the files are.
use Rattle.std.proofs.Common.{◌≡◌, ℕ, zero, suc, ◌+◌, ◌-◌, ◌*◌, ◌<◌, ◌≤◌, ◌^◌, List, ◌++◌, length, sym, ap, ◌∙◌, refl, arith, min, length-append, take, length-take, inl, inr}
use Rattle.std.specs.Prelude.{◌⊎◌, codes, decimal}
use Rattle.std.proofs.lemmas.List.{length-replicate}
use Rattle.me_bytes.specs.Bytes.{le_bytes}
use Rattle.me_generate.specs.Avi as avi
use Rattle.me_generate.specs.Bytes.{atom, chunk, padded, zeros}
use Rattle.me_generate.specs.Movie as mov
use Rattle.me_generate.specs.Rows.{HasRows, row_bytes, rows}
use Rattle.me_generate.specs.Stated.{IsMade, avi_shape, movie_shape, shape_of, stated, wave_shape, whole}
use Rattle.me_generate.specs.Wave as wave
use Rattle.me_generate.specs.declared.rows.Row.{Row}
use Rattle.me_generate.specs.declared.rows.Row.TheVariants.{Second, Picture, Entry, Place, Sample}
use Rattle.me_generate.specs.declared.shape.Shape.{Shape}
use Rattle.part_tree.specs.declared.names.Kind.{Kind}
use Rattle.part_tree.specs.declared.names.Kind.TheVariants as kind

pub length-zeros : (n : ℕ) → length (zeros n) ≡ n
unfolding zeros
length-zeros n = length-replicate n 0

pub length-padded : (width : ℕ) (text : List ℕ) → length (padded width text) ≡ width
unfolding padded
length-padded width text =
    length-append (take (min width (length text)) text) (zeros (width - min width (length text)))
    ∙ omega (arith, length-take (min width (length text)) text, length-zeros (width - min width (length text)))

-- ---- rows

abbrev pub row_len : Row → ℕ
row_len Second = 288000
row_len Picture = 16
row_len Entry = 16
row_len (Place first) = 4
row_len Sample = 8

one_row : (r : Row) (k : ℕ) → length (row_bytes r k) ≡ row_len r
one_row Second k = length-append (le_bytes 2 k) (zeros 287998) ∙ ap (λ (n : ℕ). 2 + n) (length-zeros 287998)
one_row Picture k = refl
one_row Entry k = refl
one_row (Place first) k = refl
one_row Sample k = refl

pub all_rows : (r : Row) (n : ℕ) → length (rows r n) ≡ row_len r * n
all_rows r zero = omega arith
all_rows r (suc n) =
    let so_far = all_rows r n in
    let one = one_row r n in
    length-append (rows r n) (row_bytes r n) ∙ ap (λ (m : ℕ). length (rows r n) + m) one ∙ ap (λ (m : ℕ). m + row_len r) so_far ∙ sym (mul_suc (row_len r) n)
  where
    mul_suc : (a b : ℕ) → a * suc b ≡ a * b + a
    mul_suc a b = omega arith

-- ---- the parts

pub two : (a b : List ℕ) (m n : ℕ) → length a ≡ m → length b ≡ n → length (a ++ b) ≡ m + n
two a b m n p q = length-append a b ∙ ap (λ (x : ℕ). x + length b) p ∙ ap (λ (x : ℕ). m + x) q

names_len : (n : ℕ) → length (wave.names n) ≡ 328
names_len n =
    two (chunk (codes "bext") 631 ++ wave.description n ++ padded 32 (codes "Archive")) (zeros 32) 296 32
    (two (chunk (codes "bext") 631 ++ wave.description n) (padded 32 (codes "Archive")) 264 32 (two (chunk (codes "bext") 631) (wave.description n) 8 256 refl (length-padded 256 (codes "Reel " ++ decimal n))) (length-padded 32 (codes "Archive"))) (length-zeros 32)

pub stamps_len : length wave.stamps ≡ 282
stamps_len = two (codes "2024-01-3112:00:00" ++ le_bytes 8 0 ++ le_bytes 2 1) (zeros 254) 28 254 refl (length-zeros 254)

form_len : (n : ℕ) → length (wave.form n) ≡ 652
form_len n =
    two (chunk (codes "RIFF") (1024 + 288000 * n) ++ codes "WAVE") (wave.bext n) 12 640 refl
    (two (wave.names n ++ wave.stamps) (codes "A=PCM,F=48000,W=24,M=stereo\r\n\0") 610 30 (two (wave.names n) wave.stamps 328 282 (names_len n) stamps_len) refl)

others_len : length wave.others ≡ 348
others_len =
    two (chunk (codes "iXML") 9 ++ codes "<BWFXML/>\0" ++ wave.title) wave.padding 44 304 refl (two (chunk (codes "JUNK") 296) (zeros 296) 8 296 refl (length-zeros 296))

wave_head_len : (n : ℕ) → length (wave.wave_head n) ≡ 1032
wave_head_len n =
    two (wave.form n ++ wave.format ++ wave.others) (chunk (codes "data") (288000 * n)) 1024 8
    (two (wave.form n ++ wave.format) wave.others 676 348 (two (wave.form n) wave.format 652 24 (form_len n) refl) others_len) refl

headers_len : length avi.headers ≡ 200
headers_len =
    two (chunk (codes "LIST") 192 ++ codes "hdrl" ++ avi.main_header) avi.stream 76 124
    (two (chunk (codes "LIST") 192 ++ codes "hdrl") avi.main_header 12 64 refl (two (chunk (codes "avih") 56) (zeros 56) 8 56 refl (length-zeros 56)))
    (two (chunk (codes "LIST") 116 ++ codes "strl" ++ avi.stream_header) avi.stream_format 76 48
    (two (chunk (codes "LIST") 116 ++ codes "strl") avi.stream_header 12 64 refl (two (chunk (codes "strh") 56) (padded 56 (codes "vids")) 8 56 refl (length-padded 56 (codes "vids"))))
    (two (chunk (codes "strf") 40) (zeros 40) 8 40 refl (length-zeros 40)))

avi_head_len : (n : ℕ) → length (avi.avi_head n) ≡ 224
avi_head_len n =
    two (avi.form n ++ avi.headers ++ chunk (codes "LIST") (4 + 16 * n)) (codes "movi") 220 4
    (two (avi.form n ++ avi.headers) (chunk (codes "LIST") (4 + 16 * n)) 212 8 (two (avi.form n) avi.headers 12 200 refl headers_len) refl) refl

movie_head_len : (n : ℕ) → length (mov.movie_head n) ≡ 124
movie_head_len n = refl

padding_len : length mov.padding ≡ 24
padding_len = two (atom 24 (codes "free")) (zeros 16) 8 16 refl (length-zeros 16)

movie_middle_len : (n : ℕ) → length (mov.movie_middle n) ≡ 56
movie_middle_len n =
    two (mov.user ++ mov.padding) (atom (8 + 8 * n) (codes "mdat")) 48 8 (two mov.user mov.padding 24 24 refl padding_len) refl

-- ---- the files

whole_len : (s : Shape) (n h m : ℕ) → length s.head ≡ h → length s.middle ≡ m → length (whole s n) ≡ ((h + row_len s.first * n) + m) + row_len s.last * s.lasts
whole_len s n h m head middle =
    two (s.head ++ rows s.first n ++ s.middle) (rows s.last s.lasts) ((h + row_len s.first * n) + m) (row_len s.last * s.lasts)
    (two (s.head ++ rows s.first n) s.middle (h + row_len s.first * n) m (two s.head (rows s.first n) h (row_len s.first * n) head (all_rows s.first n)) middle)
    (all_rows s.last s.lasts)

pub wave_len : (n : ℕ) → length (stated kind.Wave n) ≡ 1032 + 288000 * n
unfolding stated
wave_len n = whole_len (wave_shape n) n 1032 0 (wave_head_len n) refl ∙ omega arith

pub avi_len : (n : ℕ) → length (stated kind.Avi n) ≡ 232 + 32 * n
unfolding stated
avi_len n = whole_len (avi_shape n) n 224 8 (avi_head_len n) refl ∙ omega arith

pub movie_len : (n : ℕ) → length (whole (movie_shape n) n) ≡ 180 + 12 * n
movie_len n = whole_len (movie_shape n) n 124 56 (movie_head_len n) (movie_middle_len n) ∙ omega arith

pub mov_len : (n : ℕ) → length (stated kind.Mov n) ≡ 180 + 12 * n
unfolding stated
mov_len n = movie_len n

-- no number is allowed for the others
pub other_len : (k : Kind) (n : ℕ) → (k ≡ kind.Mov) ⊎ ((k ≡ kind.Rf64) ⊎ (k ≡ kind.Bw64)) → length (stated k n) ≡ 180 + 12 * n
unfolding stated
other_len k n (inl e) = ap (λ (x : Kind). length (stated x n)) e ∙ movie_len n
other_len k n (inr (inl e)) = ap (λ (x : Kind). length (stated x n)) e ∙ movie_len n
other_len k n (inr (inr e)) = ap (λ (x : Kind). length (stated x n)) e ∙ movie_len n

-- each has fewer than 2^63 bytes
pub few : (k : Kind) (n : ℕ) → IsMade k n → length (stated k n) < 2 ^ 63
few kind.Wave n made = omega (arith, wave_len n, made.1)
few kind.Avi n made = omega (arith, avi_len n, made.1)
few kind.Mov n made = omega (arith, mov_len n, made.1)
few kind.Rf64 n made = absurd (omega (arith, made.0, made.1))
few kind.Bw64 n made = absurd (omega (arith, made.0, made.1))

-- the numbers in the rows fit their widths
pub first_rows : (k : Kind) (n : ℕ) → IsMade k n → HasRows (shape_of k n).first n
first_rows kind.Wave n made k lt = omega (arith, lt, made.1)
first_rows kind.Avi n made k lt = tt
first_rows kind.Mov n made k lt = omega (arith, lt, made.1)
first_rows kind.Rf64 n made k lt = absurd (omega (arith, made.0, made.1))
first_rows kind.Bw64 n made k lt = absurd (omega (arith, made.0, made.1))

pub last_rows : (k : Kind) (n : ℕ) → IsMade k n → HasRows (shape_of k n).last (shape_of k n).lasts
last_rows kind.Wave n made k lt = absurd (omega (arith, lt))
last_rows kind.Avi n made k lt = omega (arith, lt, made.1)
last_rows kind.Mov n made k lt = tt
last_rows kind.Rf64 n made k lt = absurd (omega (arith, made.0, made.1))
last_rows kind.Bw64 n made k lt = absurd (omega (arith, made.0, made.1))

le_times : (r : Row) (m n : ℕ) → m ≤ n → row_len r * m ≤ row_len r * n
le_times Second m n le = omega (arith, le)
le_times Picture m n le = omega (arith, le)
le_times Entry m n le = omega (arith, le)
le_times (Place first) m n le = omega (arith, le)
le_times Sample m n le = omega (arith, le)

-- fewer rows are no longer
pub fewer_rows : (r : Row) (m n : ℕ) → m ≤ n → length (rows r m) ≤ length (rows r n)
fewer_rows r m n le = omega (arith, all_rows r m, all_rows r n, le_times r m n le)

-- a file of the shape of a number is that of the number
pub whole_is : (s : Shape) (k : Kind) (n : ℕ) → s ≡ shape_of k n → whole s n ≡ stated k n
unfolding stated
whole_is s k n is = ap (λ (t : Shape). whole t n) is
