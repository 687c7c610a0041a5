-- Each item of a file that is made is a byte.
use Rattle.std.proofs.Common.{◌≡◌, ℕ, zero, suc, ◌+◌, ◌-◌, ◌*◌, ◌<◌, ◌^◌, min, List, [], ◌∷◌, ◌++◌, length, take, replicate, true, ltb, refl, arith}
use Rattle.std.specs.Prelude.{codes, decimal}
use Rattle.std.specs.List.{list_all}
use Rattle.std.specs.Str.{IsAscii}
use Rattle.std.proofs.lemmas.Bool.{ltb-true, and_parts}
use Rattle.std.proofs.lemmas.Fmt.{IsAscii-decimal}
use Rattle.std.specs.Int.{byte_at, bytes_high_first, bytes_low_first}
use Rattle.me_bytes.specs.Bytes.{IsBytes, be_bytes, le_bytes}
use Rattle.me_generate.specs.Avi as avi
use Rattle.me_generate.specs.Bytes.{atom, chunk, numbers, padded, zeros}
use Rattle.me_generate.specs.Movie as mov
use Rattle.me_generate.specs.Rows.{row_bytes, rows}
use Rattle.me_generate.specs.Stated.{IsMade, avi_shape, movie_shape, stated, wave_shape, whole}
use Rattle.me_generate.specs.Wave as wave
use Rattle.me_generate.specs.declared.rows.Row.{Row}
use Rattle.me_generate.specs.declared.rows.Row.TheVariants.{Second, Picture, Entry, Place, Sample}
use Rattle.me_generate.specs.declared.shape.Shape.{Shape}
use Rattle.part_tree.specs.declared.names.Kind.{Kind}
use Rattle.part_tree.specs.declared.names.Kind.TheVariants as kind

none : IsBytes []
none zero = omega arith
none (suc i) = omega arith

first : (x : ℕ) (xs : List ℕ) → x < 256 → IsBytes xs → IsBytes (x ∷ xs)
first x xs h more zero = h
first x xs h more (suc i) = more i

join : (a b : List ℕ) → IsBytes a → IsBytes b → IsBytes (a ++ b)
join [] b ha hb i = hb i
join (x ∷ a) b ha hb zero = ha 0
join (x ∷ a) b ha hb (suc i) = join a b (λ j. ha (suc j)) hb i

-- a list that is written out, by a test that computes
small : (xs : List ℕ) → list_all (λ x. ltb x 256) xs ≡ true → IsBytes xs
unfolding none first
small [] h = none
small (x ∷ xs) h = let parts = and_parts (ltb x 256) (list_all (λ y. ltb y 256) xs) h in first x xs (ltb-true x 256 parts.0) (small xs parts.1)

ascii : (xs : List ℕ) → IsAscii xs → IsBytes xs
ascii xs h i = let low = h i in omega (arith, low)

fewer : (n : ℕ) (xs : List ℕ) → IsBytes xs → IsBytes (take n xs)
unfolding none first
fewer zero xs h = none
fewer (suc n) [] h = none
fewer (suc n) (x ∷ xs) h = first x (take n xs) (h 0) (fewer n xs (λ j. h (suc j)))

one_byte : (k n : ℕ) → byte_at k n < 256
one_byte zero n = omega arith
one_byte (suc k) n = omega arith

low_bytes : (i k n : ℕ) → IsBytes (bytes_low_first i k n)
unfolding none first one_byte
low_bytes i zero n = none
low_bytes i (suc k) n = first (byte_at i n) (bytes_low_first (suc i) k n) (one_byte i n) (low_bytes (suc i) k n)

high_bytes : (k n : ℕ) → IsBytes (bytes_high_first k n)
unfolding none first one_byte
high_bytes zero n = none
high_bytes (suc k) n = first (byte_at k n) (bytes_high_first k n) (one_byte k n) (high_bytes k n)

no_bits : (n : ℕ) → IsBytes (replicate n 0)
unfolding none first
no_bits zero = none
no_bits (suc n) = first 0 (replicate n 0) (omega arith) (no_bits n)

some_zeros : (n : ℕ) → IsBytes (zeros n)
unfolding zeros no_bits
some_zeros n = no_bits n

filled : (width : ℕ) (text : List ℕ) → IsBytes text → IsBytes (padded width text)
unfolding padded join fewer some_zeros
filled width text h = join (take (min width (length text)) text) (zeros (width - min width (length text))) (fewer (min width (length text)) text h) (some_zeros (width - min width (length text)))

headed : (id : List ℕ) (size : ℕ) → IsBytes id → IsBytes (chunk id size)
unfolding join low_bytes
headed id size h = join id (le_bytes 4 size) h (low_bytes 0 4 size)

sized : (size : ℕ) (name : List ℕ) → IsBytes name → IsBytes (atom size name)
unfolding join high_bytes
sized size name h = join (be_bytes 4 size) name (high_bytes 4 size) h

listed : (ns : List ℕ) → IsBytes (numbers ns)
unfolding none join high_bytes
listed [] = none
listed (n ∷ ns) = join (be_bytes 4 n) (numbers ns) (high_bytes 4 n) (listed ns)

-- ---- rows

one_row : (r : Row) (k : ℕ) → IsBytes (row_bytes r k)
unfolding join low_bytes high_bytes some_zeros headed small
one_row Second k = join (le_bytes 2 k) (zeros 287998) (low_bytes 0 2 k) (some_zeros 287998)
one_row Picture k = join (chunk (codes "00db") 8) (le_bytes 8 k) (headed (codes "00db") 8 (small (codes "00db") refl)) (low_bytes 0 8 k)
one_row Entry k =
    join (codes "00db") (le_bytes 4 16 ++ le_bytes 4 (4 + 16 * k) ++ le_bytes 4 8) (small (codes "00db") refl)
    (join (le_bytes 4 16) (le_bytes 4 (4 + 16 * k) ++ le_bytes 4 8) (low_bytes 0 4 16) (join (le_bytes 4 (4 + 16 * k)) (le_bytes 4 8) (low_bytes 0 4 (4 + 16 * k)) (low_bytes 0 4 8)))
one_row (Place place) k = high_bytes 4 (place + 8 * k)
one_row Sample k = high_bytes 8 k

all_rows : (r : Row) (n : ℕ) → IsBytes (rows r n)
unfolding none join one_row
all_rows r zero = none
all_rows r (suc n) = join (rows r n) (row_bytes r n) (all_rows r n) (one_row r n)

-- ---- WAVE

module _ (n : ℕ) (few : n < 2 ^ 64) where
  described : IsBytes (wave.description n)
  unfolding filled join small ascii
  described = filled 256 (codes "Reel " ++ decimal n) (join (codes "Reel ") (decimal n) (small (codes "Reel ") refl) (ascii (decimal n) (IsAscii-decimal n few)))

  named : IsBytes (wave.names n)
  unfolding described join headed filled some_zeros small
  named =
      join (chunk (codes "bext") 631 ++ wave.description n ++ padded 32 (codes "Archive")) (zeros 32)
      (join (chunk (codes "bext") 631 ++ wave.description n) (padded 32 (codes "Archive"))
      (join (chunk (codes "bext") 631) (wave.description n) (headed (codes "bext") 631 (small (codes "bext") refl)) described)
      (filled 32 (codes "Archive") (small (codes "Archive") refl))) (some_zeros 32)

  stamped : IsBytes wave.stamps
  unfolding join small low_bytes some_zeros
  stamped =
      join (codes "2024-01-3112:00:00") (le_bytes 8 0 ++ le_bytes 2 1 ++ zeros 254) (small (codes "2024-01-3112:00:00") refl)
      (join (le_bytes 8 0) (le_bytes 2 1 ++ zeros 254) (low_bytes 0 8 0) (join (le_bytes 2 1) (zeros 254) (low_bytes 0 2 1) (some_zeros 254)))

  formed : IsBytes (wave.form n)
  unfolding named stamped join headed small
  formed =
      join (chunk (codes "RIFF") (1024 + 288000 * n)) (codes "WAVE" ++ wave.bext n) (headed (codes "RIFF") (1024 + 288000 * n) (small (codes "RIFF") refl))
      (join (codes "WAVE") (wave.bext n) (small (codes "WAVE") refl)
      (join (wave.names n ++ wave.stamps) (codes "A=PCM,F=48000,W=24,M=stereo\r\n\0") (join (wave.names n) wave.stamps named stamped)
      (small (codes "A=PCM,F=48000,W=24,M=stereo\r\n\0") refl)))

  followed : IsBytes wave.others
  unfolding join headed small some_zeros
  followed =
      join (chunk (codes "iXML") 9) (codes "<BWFXML/>\0" ++ wave.title ++ wave.padding) (headed (codes "iXML") 9 (small (codes "iXML") refl))
      (join (codes "<BWFXML/>\0") (wave.title ++ wave.padding) (small (codes "<BWFXML/>\0") refl)
      (join wave.title wave.padding (small wave.title refl) (join (chunk (codes "JUNK") 296) (zeros 296) (headed (codes "JUNK") 296 (small (codes "JUNK") refl)) (some_zeros 296))))

  wave_bytes : IsBytes (wave.wave_head n)
  unfolding formed followed join headed small
  wave_bytes =
      join (wave.form n ++ wave.format ++ wave.others) (chunk (codes "data") (288000 * n))
      (join (wave.form n ++ wave.format) wave.others (join (wave.form n) wave.format formed (small wave.format refl)) followed)
      (headed (codes "data") (288000 * n) (small (codes "data") refl))

-- ---- AVI

streamed : IsBytes avi.stream
unfolding join headed small filled some_zeros
streamed =
    join (chunk (codes "LIST") 116) (codes "strl" ++ avi.stream_header ++ avi.stream_format) (headed (codes "LIST") 116 (small (codes "LIST") refl))
    (join (codes "strl") (avi.stream_header ++ avi.stream_format) (small (codes "strl") refl)
    (join avi.stream_header avi.stream_format
    (join (chunk (codes "strh") 56) (padded 56 (codes "vids")) (headed (codes "strh") 56 (small (codes "strh") refl)) (filled 56 (codes "vids") (small (codes "vids") refl)))
    (join (chunk (codes "strf") 40) (zeros 40) (headed (codes "strf") 40 (small (codes "strf") refl)) (some_zeros 40))))

headers_bytes : IsBytes avi.headers
unfolding streamed join headed small some_zeros
headers_bytes =
    join (chunk (codes "LIST") 192) (codes "hdrl" ++ avi.main_header ++ avi.stream) (headed (codes "LIST") 192 (small (codes "LIST") refl))
    (join (codes "hdrl") (avi.main_header ++ avi.stream) (small (codes "hdrl") refl)
    (join avi.main_header avi.stream (join (chunk (codes "avih") 56) (zeros 56) (headed (codes "avih") 56 (small (codes "avih") refl)) (some_zeros 56)) streamed))

avi_bytes : (n : ℕ) → IsBytes (avi.avi_head n)
unfolding headers_bytes join headed small
avi_bytes n =
    join (avi.form n) (avi.headers ++ chunk (codes "LIST") (4 + 16 * n) ++ codes "movi")
    (join (chunk (codes "RIFF") (224 + 32 * n)) (codes "AVI ") (headed (codes "RIFF") (224 + 32 * n) (small (codes "RIFF") refl)) (small (codes "AVI ") refl))
    (join avi.headers (chunk (codes "LIST") (4 + 16 * n) ++ codes "movi") headers_bytes
    (join (chunk (codes "LIST") (4 + 16 * n)) (codes "movi") (headed (codes "LIST") (4 + 16 * n) (small (codes "LIST") refl)) (small (codes "movi") refl)))

-- ---- a movie

media_bytes : (n : ℕ) → IsBytes (mov.media n)
unfolding join sized small
media_bytes n =
    join (atom (88 + 4 * n) (codes "mdia")) (atom (80 + 4 * n) (codes "minf") ++ atom (72 + 4 * n) (codes "stbl")) (sized (88 + 4 * n) (codes "mdia") (small (codes "mdia") refl))
    (join (atom (80 + 4 * n) (codes "minf")) (atom (72 + 4 * n) (codes "stbl")) (sized (80 + 4 * n) (codes "minf") (small (codes "minf") refl)) (sized (72 + 4 * n) (codes "stbl") (small (codes "stbl") refl)))

track_bytes : (n : ℕ) → IsBytes (mov.track n)
unfolding media_bytes join sized small
track_bytes n =
    join (atom (128 + 4 * n) (codes "moov")) (atom (96 + 4 * n) (codes "trak") ++ mov.media n) (sized (128 + 4 * n) (codes "moov") (small (codes "moov") refl))
    (join (atom (96 + 4 * n) (codes "trak")) (mov.media n) (sized (96 + 4 * n) (codes "trak") (small (codes "trak") refl)) (media_bytes n))

tables_bytes : (n : ℕ) → IsBytes (mov.tables n)
unfolding join sized small listed
tables_bytes n =
    join mov.chunks (mov.sizes n ++ mov.places n)
    (join (atom 28 (codes "stsc")) (numbers (0 ∷ 1 ∷ 1 ∷ 1 ∷ 1 ∷ [])) (sized 28 (codes "stsc") (small (codes "stsc") refl)) (listed (0 ∷ 1 ∷ 1 ∷ 1 ∷ 1 ∷ [])))
    (join (mov.sizes n) (mov.places n)
    (join (atom 20 (codes "stsz")) (numbers (0 ∷ 8 ∷ n ∷ [])) (sized 20 (codes "stsz") (small (codes "stsz") refl)) (listed (0 ∷ 8 ∷ n ∷ [])))
    (join (atom (16 + 4 * n) (codes "stco")) (numbers (0 ∷ n ∷ [])) (sized (16 + 4 * n) (codes "stco") (small (codes "stco") refl)) (listed (0 ∷ n ∷ []))))

movie_bytes : (n : ℕ) → IsBytes (mov.movie_head n)
unfolding track_bytes tables_bytes join small
movie_bytes n = join mov.file_type (mov.track n ++ mov.tables n) (small mov.file_type refl) (join (mov.track n) (mov.tables n) (track_bytes n) (tables_bytes n))

middle_bytes : (n : ℕ) → IsBytes (mov.movie_middle n)
unfolding join sized small some_zeros
middle_bytes n =
    join mov.user (mov.padding ++ atom (8 + 8 * n) (codes "mdat")) (small mov.user refl)
    (join mov.padding (atom (8 + 8 * n) (codes "mdat")) (join (atom 24 (codes "free")) (zeros 16) (sized 24 (codes "free") (small (codes "free") refl)) (some_zeros 16))
    (sized (8 + 8 * n) (codes "mdat") (small (codes "mdat") refl)))

-- ---- the whole

of_shape : (s : Shape) (n : ℕ) → IsBytes s.head → IsBytes s.middle → IsBytes (whole s n)
unfolding join all_rows
of_shape s n head middle =
    join (s.head ++ rows s.first n ++ s.middle) (rows s.last s.lasts)
    (join (s.head ++ rows s.first n) s.middle (join s.head (rows s.first n) head (all_rows s.first n)) middle) (all_rows s.last s.lasts)

pub stated_bytes : (k : Kind) (n : ℕ) → IsMade k n → IsBytes (stated k n)
unfolding stated of_shape wave_bytes avi_bytes movie_bytes middle_bytes headed small none
stated_bytes kind.Wave n made = let most = made.1 in of_shape (wave_shape n) n (wave_bytes n (omega (arith, most))) none
stated_bytes kind.Avi n made = of_shape (avi_shape n) n (avi_bytes n) (headed (codes "idx1") (16 * n) (small (codes "idx1") refl))
stated_bytes kind.Mov n made = of_shape (movie_shape n) n (movie_bytes n) (middle_bytes n)
stated_bytes kind.Rf64 n made = of_shape (movie_shape n) n (movie_bytes n) (middle_bytes n)
stated_bytes kind.Bw64 n made = of_shape (movie_shape n) n (movie_bytes n) (middle_bytes n)
