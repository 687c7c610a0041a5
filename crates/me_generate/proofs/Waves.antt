-- A WAVE file that is made, as a form with six chunks: it is supported.
use Rattle.std.proofs.Common.{◌≡◌, ℕ, ◌+◌, ◌*◌, ◌≤◌, List, [], ◌∷◌, ◌++◌, length, take, drop, replicate, refl, sym, ap, ◌∙◌, subst, arith, Some, None, inl, inr, length-append, append_assoc, append-nil}
use Rattle.std.specs.Prelude.{codes, decimal}
use Rattle.std.specs.Int.{w32, to_le_bytes}
use Rattle.std.specs.List.{AllByRecursion}
use Rattle.std.proofs.lemmas.Bool.{false≢true}
use Rattle.part_tree.specs.Kinds.{kind as kind_by}
use Rattle.part_tree.specs.declared.names.Kind.TheVariants as kind
use Rattle.container_model.specs.Chunk.{Chunk, PadStands, Reads, Run, Stands, chunks, header_bytes, read, riff, spell, spell_all, wide}
use Rattle.container_model.specs.Sizes.{plain, riff_front}
use Rattle.container_model.proofs.Reread.{Neutral}
use Rattle.wave_model.specs.Edited.{ChildrenFine, ChunkFine, Supported, parts}
use Rattle.wave_model.specs.Wave.{Wave, form_of, inner, spell_wave, wave_of}
use Rattle.wave_model.specs.Why.{why}
use Rattle.wave_model.proofs.Again.{Readable, run_is, size_is, wave_again}
use Rattle.wave_model.proofs.Read.{neutral}
use Rattle.wave_model.proofs.Why.{supported_why}
use Rattle.me_generate.specs.Bytes.{chunk, padded, zeros}
use Rattle.me_generate.specs.Rows.{rows}
use Rattle.me_generate.specs.Stated.{IsMade, stated}
use Rattle.me_generate.specs.Wave as wave
use Rattle.me_generate.specs.declared.rows.Row.TheVariants.{Second}
use Rattle.me_generate.proofs.Lengths.{all_rows, length-padded, length-zeros, stamps_len, two}

-- ---- its chunks, of which the first has this body, the list this title, and the last this sound

abbrev pub bext : List ℕ → Chunk
bext body = record { form = riff; id = codes "bext"; body = body; pad = 0 ∷ [] }

abbrev pub fmt : Chunk
fmt = record { form = riff; id = codes "fmt "; body = drop 8 wave.format; pad = [] }

abbrev pub ixml : Chunk
ixml = record { form = riff; id = codes "iXML"; body = codes "<BWFXML/>"; pad = 0 ∷ [] }

abbrev pub titled : List ℕ → Chunk
titled text = record { form = riff; id = codes "LIST"; body = codes "INFO" ++ (chunk (codes "INAM") 5 ++ text); pad = [] }

abbrev pub junk : Chunk
junk = record { form = riff; id = codes "JUNK"; body = replicate 296 0; pad = [] }

abbrev pub sound : List ℕ → Chunk
sound d = record { form = riff; id = codes "data"; body = d; pad = [] }

abbrev pub six : List ℕ → List ℕ → List ℕ → List Chunk
six body text d = bext body ∷ fmt ∷ ixml ∷ titled text ∷ junk ∷ sound d ∷ []

abbrev pub waved : List ℕ → List ℕ → List ℕ → Wave
waved body text d = record { form = riff; id = codes "RIFF"; ds64 = []; children = six body text d; left = []; pad = []; tail = [] }

-- the title that it is made with
abbrev pub reel : List ℕ
reel = codes "Reel\0\0"

-- ---- how long they are

spelled_len : (id b p : List ℕ) → length id ≡ 4 → length (spell (record { form = riff; id = id; body = b; pad = p })) ≡ 8 + (length b + length p)
spelled_len id b p four =
    let field : length (to_le_bytes w32 (length b)) ≡ 4 = refl in
    omega (arith, four, field, length-append id (to_le_bytes w32 (length b)), length-append b p, length-append (id ++ to_le_bytes w32 (length b)) (b ++ p))

all_len : (a b c e f g : List ℕ) → length (a ++ (b ++ (c ++ (e ++ (f ++ (g ++ [])))))) ≡ length a + (length b + (length c + (length e + (length f + length g))))
all_len a b c e f g =
    omega (
      arith,
      length-append a (b ++ (c ++ (e ++ (f ++ (g ++ []))))),
      length-append b (c ++ (e ++ (f ++ (g ++ [])))),
      length-append c (e ++ (f ++ (g ++ []))),
      length-append e (f ++ (g ++ [])),
      length-append f (g ++ []),
      length-append g [],
    )

behind_word : (x : List ℕ) → length (codes "WAVE" ++ ([] ++ (x ++ []))) ≡ 4 + length x
behind_word x = let e = length-append x [] in omega (arith, e)

-- ---- each is read from its spelling

regroup_chunk : (h b p m : List ℕ) → (h ++ (b ++ p)) ++ m ≡ h ++ (b ++ (p ++ m))
regroup_chunk h b p m = simp append_assoc

stands : (c : Chunk) (more : List ℕ) → Neutral riff_front c → PadStands c.form (length c.body) c.pad more → Stands riff_front plain plain c more
stands c more head pad = record {
  header_read =
      ap (riff_front plain) (regroup_chunk (header_bytes c.form c.id (length c.body)) c.body c.pad more)
      ∙ head plain (c.body ++ (c.pad ++ more));
  padded = pad;
}

module _ (body d : List ℕ) (n : ℕ) (body_len : length body ≡ 631) (d_len : length d ≡ 288000 * n) (most : n ≤ 14000) where
  pub inner_len : (text : List ℕ) → length text ≡ 6 → length (inner (waved body text d)) ≡ 1024 + 288000 * n
  inner_len text long =
      let list : length (titled text).body ≡ 12 + length text = omega arith in
      behind_word (spell_all (six body text d))
      ∙ omega (
        arith,
        body_len,
        d_len,
        long,
        list,
        all_len (spell (bext body)) (spell fmt) (spell ixml) (spell (titled text)) (spell junk) (spell (sound d)),
        spelled_len (codes "bext") body (0 ∷ []) refl,
        spelled_len (codes "fmt ") fmt.body [] refl,
        spelled_len (codes "iXML") ixml.body (0 ∷ []) refl,
        spelled_len (codes "LIST") (titled text).body [] refl,
        spelled_len (codes "JUNK") junk.body [] refl,
        spelled_len (codes "data") d [] refl,
      )

  all_read : Reads riff_front plain (six body reel d) []
  unfolding stands
  all_read = (
    plain,
    stands (bext body) _ (neutral (bext body) refl refl (omega (arith, body_len))) (inl (omega (arith, body_len))),
    (
      plain,
      stands fmt _ (neutral fmt refl refl (omega arith)) (inl refl),
      (
        plain,
        stands ixml _ (neutral ixml refl refl (omega arith)) (inl refl),
        (
          plain,
          stands (titled reel) _ (neutral (titled reel) refl refl (omega arith)) (inl refl),
          (
            plain,
            stands junk _ (neutral junk refl refl (omega arith)) (inl refl),
            (
              plain,
              stands (sound d) _ (neutral (sound d) refl refl (omega (arith, d_len, most))) (inl (omega (arith, d_len))),
              refl,
            ),
          ),
        ),
      ),
    ),
  )

  pub readable : Readable (waved body reel d)
  unfolding all_read inner_len
  readable = record {
    id_len = refl;
    form_fine = (omega (arith, inner_len reel refl, most), λ is. absurd (false≢true is));
    riff_size = λ is. absurd (not_wide is);
    state = plain;
    state_is = refl;
    reads = all_read;
    ds64_first = refl;
    ds64_behind = refl;
    form_pad = inr (omega arith, refl);
  }
    where
      not_wide : riff ≡ wide → ⊥
      not_wide is = cc

  list_fine : ChunkFine (titled reel)
  unfolding chunks read
  list_fine = record { list_ends = λ is. refl; carrier_small = λ is. omega arith }

  each_fine : AllByRecursion ChunkFine (six body reel d)
  unfolding list_fine
  each_fine = (
    record { list_ends = λ is. absurd (false≢true is); carrier_small = λ is. omega (arith, body_len) },
    (
      record { list_ends = λ is. absurd (false≢true is); carrier_small = λ is. absurd (false≢true is) },
      (
        record { list_ends = λ is. absurd (false≢true is); carrier_small = λ is. omega arith },
        (
          list_fine,
          (
            record { list_ends = λ is. absurd (false≢true is); carrier_small = λ is. absurd (false≢true is) },
            (
              record { list_ends = λ is. absurd (false≢true is); carrier_small = λ is. absurd (false≢true is) },
              tt,
            ),
          ),
        ),
      ),
    ),
  )

  fine : ChildrenFine (six body reel d)
  unfolding each_fine
  fine = record {
    each = each_fine;
    one_format = refl;
    are_formats = ((omega arith, omega arith), tt);
    one_sound = refl;
    one_bext = omega arith;
    long_bext = (omega (arith, body_len), tt);
  }

  few : parts (waved body reel d) ≤ 65536
  unfolding chunks read
  few = omega arith

  pub whole_len : (text : List ℕ) → length (spell_wave (waved body text d)) ≡ 8 + length (inner (waved body text d))
  whole_len text =
      let w = waved body text d in
      omega (arith, spelled_len (codes "RIFF") (inner w) [] refl, length-append (spell (form_of w)) [])

  pub supported : Supported (spell_wave (waved body reel d))
  unfolding readable fine few inner_len whole_len
  supported =
      let w = waved body reel d in
      let size = size_is w readable in
      let long = inner_len reel refl in
      record {
        form_id = refl;
        form_type = refl;
        with_ds64 = λ is. absurd (false≢true is);
        long = omega (arith, size, long);
        inside = omega (arith, size, whole_len reel);
        chunks_end = ap (λ (r : Run). r.stop) (run_is w readable);
        children = subst (λ (x : Wave). ChildrenFine x.children) (sym (wave_again w readable)) fine;
        few_parts = subst (λ (x : Wave). parts x ≤ 65536) (sym (wave_again w readable)) few;
      }

-- ---- it is the file that is made

-- the body of `bext`
abbrev pub body_of : ℕ → List ℕ
body_of n = wave.description n ++ padded 32 (codes "Archive") ++ zeros 32 ++ wave.stamps ++ codes "A=PCM,F=48000,W=24,M=stereo\r\n"

abbrev pub wave_for : ℕ → Wave
wave_for n = waved (body_of n) reel (rows Second n)

pub body_len : (n : ℕ) → length (body_of n) ≡ 631
body_len n =
    let d = wave.description n in
    let p = padded 32 (codes "Archive") in
    two (d ++ p ++ zeros 32 ++ wave.stamps) (codes "A=PCM,F=48000,W=24,M=stereo\r\n") 602 29
    (two (d ++ p ++ zeros 32) wave.stamps 320 282
    (two (d ++ p) (zeros 32) 288 32 (two d p 256 32 (length-padded 256 (codes "Reel " ++ decimal n)) (length-padded 32 (codes "Archive"))) (length-zeros 32)) stamps_len) refl

-- the form with its sizes, of which those of the form, of `bext` and of the sound are numbers here, and with this padding
abbrev flat : List ℕ → List ℕ → List ℕ → ℕ → ℕ → ℕ → List ℕ
flat body d z m k s =
    (chunk (codes "RIFF") m ++ ((codes "WAVE" ++ ([] ++ (((chunk (codes "bext") k ++ (body ++ 0 ∷ [])) ++ (spell fmt ++ (spell ixml ++ (spell (titled reel) ++ ((chunk (codes "JUNK") 296 ++ (z ++ [])) ++ ((chunk (codes "data") s ++ (d ++ [])) ++ [])))))) ++ []))) ++ [])) ++ []

sizes : (n : ℕ) → n ≤ 14000 → spell_wave (wave_for n) ≡ flat (body_of n) (rows Second n) (replicate 296 0) (1024 + 288000 * n) 631 (288000 * n)
sizes n most =
    let b = body_of n in
    let d = rows Second n in
    ap (λ (m : ℕ). flat b d (replicate 296 0) m (length b) (length d)) (inner_len b d n (body_len n) (all_rows Second n) most reel refl)
    ∙ ap (λ (k : ℕ). flat b d (replicate 296 0) (1024 + 288000 * n) k (length d)) (body_len n)
    ∙ ap (λ (s : ℕ). flat b d (replicate 296 0) (1024 + 288000 * n) 631 s) (all_rows Second n)

regroup : (R W B d p z S H o F X T J Z D Y : List ℕ)
    → (((((R ++ W) ++ (((((B ++ d) ++ p) ++ z) ++ S) ++ (H ++ o))) ++ F) ++ ((X ++ T) ++ (J ++ Z))) ++ D) ++ Y ++ [] ++ []
    ≡ (R ++ ((W ++ ([] ++ (((B ++ (((((d ++ p) ++ z) ++ S) ++ H) ++ o)) ++ (F ++ (X ++ (T ++ ((J ++ (Z ++ [])) ++ ((D ++ (Y ++ [])) ++ [])))))) ++ []))) ++ [])) ++ []
regroup R W B d p z S H o F X T J Z D Y = simp (append_assoc, append-nil)

zeros_are : zeros 296 ≡ replicate 296 0
unfolding zeros
zeros_are = refl

pub is_made : (n : ℕ) → n ≤ 14000 → stated kind.Wave n ≡ spell_wave (wave_for n)
unfolding stated
is_made n most =
    regroup (chunk (codes "RIFF") (1024 + 288000 * n)) (codes "WAVE") (chunk (codes "bext") 631) (wave.description n) (padded 32 (codes "Archive")) (zeros 32) wave.stamps
    (codes "A=PCM,F=48000,W=24,M=stereo\r\n") (0 ∷ []) wave.format (chunk (codes "iXML") 9 ++ codes "<BWFXML/>\0") wave.title (chunk (codes "JUNK") 296) (zeros 296)
    (chunk (codes "data") (288000 * n)) (rows Second n)
    ∙ ap (λ (z : List ℕ). flat (body_of n) (rows Second n) z (1024 + 288000 * n) 631 (288000 * n)) zeros_are ∙ sym (sizes n most)

pub is_supported : (n : ℕ) → n ≤ 14000 → Supported (spell_wave (wave_for n))
is_supported n most = supported (body_of n) (rows Second n) n (body_len n) (all_rows Second n) most

pub reads_as : (n : ℕ) → n ≤ 14000 → wave_of (stated kind.Wave n) ≡ wave_for n
reads_as n most =
    ap wave_of (is_made n most)
    ∙ wave_again (wave_for n) (readable (body_of n) (rows Second n) n (body_len n) (all_rows Second n) most)

pub no_refusal : (n : ℕ) → IsMade kind.Wave n → why (stated kind.Wave n) ≡ None
no_refusal n made = ap why (is_made n made.1) ∙ supported_why (spell_wave (wave_for n)) (is_supported n made.1)

-- its first bytes tell its kind
pub wave_first : (n : ℕ) → kind_by (take 12 (stated kind.Wave n)) ≡ Some kind.Wave
unfolding stated
wave_first n = refl
