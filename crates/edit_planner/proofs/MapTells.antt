-- What is read of a depot tells what its file is.
use Rattle.std.proofs.Common.{◌≡◌, ◌∙◌, ℕ, ◌+◌, ◌<◌, ◌≤◌, ◌-◌, List, [], ◌∷◌, ◌++◌, length, map, Bool, true, false, Option, Some, None, Result, Ok, Err, refl, sym, ap, subst, arith, cond, inl, inr}
use Rattle.std.specs.Prelude.{◌^◌, IfErr, IfOk, IfSome}
use Rattle.std.specs.List.{AllByRecursion}
use Rattle.me_disk.specs.Disk.{Disk}
use Rattle.me_disk.specs.Holds.{Holds, Inside}
use Rattle.me_disk.specs.Steps.{ReadsOnly}
use Rattle.me_disk.proofs.Holds.{holds_on}
use Rattle.part_tree.specs.declared.names.Kind.TheVariants.{Avi, Mov}
use Rattle.part_tree.specs.declared.names.Span.{Span}
use Rattle.part_tree.specs.declared.shows.Track.{Track}
use Rattle.part_tree.specs.declared.why.ReadFault.{ReadFault}
use Rattle.part_tree.specs.declared.why.ReadFault.TheVariants as read
use Rattle.field_model.specs.KindReads.{Refuses}
use Rattle.part_tree.specs.Ranges.{Ascends}
use Rattle.part_tree.specs.Fields.{IsMap}
use Rattle.container_model.specs.Chunk.{Chunk, spell}
use Rattle.container_model.specs.Walk.{along}
use Rattle.mov_model.specs.Kind.{mov_kind}
use Rattle.avi_file.specs.Map as avi
use Rattle.avi_file.specs.Walk.{behind_type}
use Rattle.avi_model.specs.Avi.{avi_of, strls}
use Rattle.std.proofs.lemmas.List.{length-map}
use Rattle.avi_file.specs.declared.map.AviMap.{AviMap}
use Rattle.avi_model.specs.Kind.{avi_kind, behind_word}
use Rattle.mov_file.specs.Map as mov
use Rattle.mov_file.specs.declared.map.MovMap.{MovMap}
use Rattle.wave_model.specs.Kind.{wave_kind}
use Rattle.wave_model.specs.Map.{body_span, sound, sound_from}
use Rattle.wave_model.specs.New.{children_at}
use Rattle.wave_model.specs.Wave.{wave_of}
use Rattle.wave_model.specs.Why.{is_data}
use Rattle.wave_file.specs.Map.{IsMapOf, IsSound, all_sounds, sound_at}
use Rattle.wave_file.specs.declared.map.WaveMap.{WaveMap}
use Rattle.edit_planner.specs.declared.plans.FileMap.{FileMap}
use Rattle.edit_planner.specs.declared.plans.FileMap.TheVariants as map
use Rattle.edit_planner.specs.Facts.{IsRead, TellsOf, hashed_in}
use Rattle.edit_planner.specs.Kinds.{kind_at, model_in}
use Rattle.edit_planner.specs.Plan.{Maps, told_in, told_len, total_len}
use Rattle.track_samples.specs.Places.{Lies, TablesLie}
use Rattle.edit_planner.proofs.OfKind.{of_avi, of_mov, of_wave, is_read}

first_one : {X : Type 0} {x y : X} {xs : List X} → x ∷ [] ≡ y ∷ xs → x ≡ y
first_one {X} {x} e = ap first e
  where
    first : List X → X
    first [] = x
    first (z ∷ zs) = z

-- the one sound that is told is the first
first_sound : (at : ℕ) (cs : List Chunk) (s : Span) → s ∷ [] ≡ along sound_at at cs → s ≡ sound_from at cs
first_sound at [] s e = absurd cc
first_sound at (c ∷ cs) s e = go (is_data c) e (first_sound (at + length (spell c)) cs s)
  where
    go : (t : Bool) → s ∷ [] ≡ cond t (record { at = at + 8; len = length c.body } ∷ []) [] ++ along sound_at (at + length (spell c)) cs
        → (s ∷ [] ≡ along sound_at (at + length (spell c)) cs → s ≡ sound_from (at + length (spell c)) cs) → s ≡ cond t (body_span at c) (sound_from (at + length (spell c)) cs)
    go true e more = first_one e
    go false e more = more e

sound_told : (o : List ℕ) (m : WaveMap) → IsMapOf o m → m.sound ≡ sound o
sound_told o m is = first_sound (children_at (wave_of o)) (wave_of o).children m.sound is.sound

alone : (s : Span) (o : List ℕ) → s ≡ sound o → s.len ≡ total_len (sound o ∷ [])
alone s o is = let same = ap (λ (x : Span). x.len) is in omega (arith, same)

wave_tells : (o : List ℕ) (m : WaveMap) → IsMapOf o m → TellsOf wave_kind o (map.Wave m)
unfolding sound_told alone
wave_tells o m is = record {
  supported = is.supported;
  kind = is.kind;
  fields = is.field_values;
  streams = refl;
  payload = alone m.sound o (sound_told o m is);
  hashed = ap Some (sound_told o m is);
  entries = refl;
  tracks = refl;
  bodies = inl refl;
}

-- a map of a WAVE file tells what it is as one of its own kind
pub tells : (o : List ℕ) (m : WaveMap) → IsMapOf o m → TellsOf (model_in o) o (map.Wave m)
unfolding wave_tells
tells o m is = of_wave (λ k. TellsOf k o (map.Wave m)) o (is_read o is.supported) (wave_tells o m is)

pub wave_read : (d : Disk) (m : WaveMap) → ((o : List ℕ) → Holds d o → IsMapOf o m) → IsSound m → IsMap m.fields → IsRead d (map.Wave m)
unfolding tells
wave_read d m file good ordered = record {
  mapped = file;
  tells = λ o h. tells o m (file o h);
  sound = good;
  lawful = good.lawful;
  ordered = ordered;
  inside = λ o h. let len = (file o h).len in omega (arith, len, good.sound_inside, good.form_inside);
  small = omega (arith, good.sound_inside, good.form_inside, good.small);
  bodies_ascend = tt;
  bodies_inside = λ o h. tt;
  tables = tt;
}

-- ---- movies

-- ranges that ascend up to an end are together no longer
sum_inside : (from end : ℕ) (ss : List Span) → Ascends from ss → AllByRecursion (mov.EndsBy end) ss → from ≤ end → from + total_len ss ≤ end
sum_inside from end [] a e le = omega arith
sum_inside from end (s ∷ ss) a e le =
    let rest = sum_inside (s.at + s.len) end ss a.1 e.1 e.0 in
    let first = a.0 in
    omega arith

told_all : (ss : List Span) → total_len ss < 2 ^ 63 → told_len ss ≡ total_len ss
told_all ss few = omega arith

mov_tells : (o : List ℕ) (m : MovMap) → mov.IsMapOf o m → mov.IsSound m → TellsOf mov_kind o (map.Mov m)
unfolding sum_inside told_all
mov_tells o m is good = record {
  supported = is.supported;
  kind = refl;
  fields = is.field_values;
  streams = refl;
  payload = told_all m.mdats.items (omega (arith, sum_inside 0 m.len m.mdats.items good.mdats good.mdats_inside (omega arith), good.small)) ∙ ap total_len is.mdats;
  hashed = refl;
  entries = refl;
  tracks = is.tracks;
  bodies = inr is.mdats;
}

module _ (d : Disk) (m : MovMap) (small : m.len < 2 ^ 63) (whole : (o : List ℕ) → Holds d o → m.len ≡ length o) where
  lies : (s : Span) → mov.EndsBy m.len s → Lies d s
  lies s ends = record { inside = λ o h. let len = whole o h in omega arith; small = omega arith }

  may_lie : (s : Option Span) → mov.MayEndBy m.len s → IfSome s (Lies d)
  may_lie None ends = tt
  may_lie (Some s) ends = lies s ends

  tables_lie : (ts : List Track) → AllByRecursion (mov.TrackEndsBy m.len) ts → AllByRecursion (TablesLie d) ts
  tables_lie [] ends = tt
  tables_lie (t ∷ ts) ends = (record { chunks = lies t.chunks ends.0.chunks; runs = may_lie t.stsc ends.0.runs; sizes = may_lie t.stsz ends.0.sizes }, tables_lie ts ends.1)

pub mov_read : (d : Disk) (m : MovMap) → ((o : List ℕ) → Holds d o → kind_at o ≡ Some Mov) → ((o : List ℕ) → Holds d o → mov.IsMapOf o m) → mov.IsSound m → IsMap m.fields → IsRead d (map.Mov m)
unfolding mov_tells tables_lie
mov_read d m kinds file good ordered =
    let told : (o : List ℕ) → Holds d o → TellsOf (model_in o) o (map.Mov m) = λ o h. of_mov (λ k. TellsOf k o (map.Mov m)) o (kinds o h) (mov_tells o m (file o h) good) in
    record {
      mapped = file;
      tells = told;
      sound = good;
      lawful = good.lawful;
      ordered = ordered;
      inside = tt;
      small = tt;
      bodies_ascend = good.mdats;
      bodies_inside = λ o h. subst (λ (n : ℕ). AllByRecursion (λ (s : Span). s.at + s.len ≤ n) m.mdats.items) (file o h).len good.mdats_inside;
      tables = tables_lie d m good.small (λ o h. (file o h).len) m.tracks.items good.tracks;
    }

-- ---- AVI files

-- behind their types ranges are no longer
less_behind : (ss : List Span) → total_len (map behind_word ss) ≤ total_len ss
less_behind [] = omega arith
less_behind (s ∷ ss) = let rest = less_behind ss in omega arith

avi_tells : (o : List ℕ) (m : AviMap) → avi.IsMapOf o m → avi.IsSound m → length m.streams.items ≤ 2 ^ 32 - 1 → TellsOf avi_kind o (map.Avi m)
unfolding sum_inside told_all less_behind
avi_tells o m is good few =
    let all = sum_inside 0 m.len m.movis.items good.movis_ascend good.movis_inside (omega arith) in
    let less = less_behind m.movis.items in
    record {
      supported = is.supported;
      kind = refl;
      fields = is.field_values;
      streams = (let same = ap (λ (ss : List Span). length ss) is.streams ∙ length-map (strls (avi_of o)) behind_type in omega (arith, same, few));
      payload = told_all (map behind_word m.movis.items) (omega (arith, all, less, good.small)) ∙ ap (λ (ss : List Span). total_len (map behind_word ss)) is.movis;
      hashed = refl;
      entries = ap Some is.entries;
      tracks = refl;
      bodies = inl refl;
    }

pub avi_read : (d : Disk) (m : AviMap) → ((o : List ℕ) → Holds d o → kind_at o ≡ Some Avi) → ((o : List ℕ) → Holds d o → avi.IsMapOf o m) → avi.IsSound m → IsMap m.fields
    → length m.streams.items ≤ 2 ^ 32 - 1 → IsRead d (map.Avi m)
unfolding avi_tells
avi_read d m kinds file good ordered few =
    let told : (o : List ℕ) → Holds d o → TellsOf (model_in o) o (map.Avi m) = λ o h. of_avi (λ k. TellsOf k o (map.Avi m)) o (kinds o h) (avi_tells o m (file o h) good few) in
    record {
      mapped = file;
      tells = told;
      sound = good;
      lawful = good.lawful;
      ordered = ordered;
      inside = tt;
      small = tt;
      bodies_ascend = tt;
      bodies_inside = λ o h. tt;
      tables = tt;
    }

-- ---- what was read after calls that only read

inside_back : (a b : Disk) (end : ℕ) → ReadsOnly a b → Inside end b → Inside end a
inside_back a b end reads h o held = h o (holds_on a b o reads held)

range_back : (a b : Disk) (x : Option Span) → ReadsOnly a b → IfSome x (λ s. Inside (s.at + s.len) b) → IfSome x (λ s. Inside (s.at + s.len) a)
range_back a b None reads h = tt
range_back a b (Some s) reads h = inside_back a b (s.at + s.len) reads h

lies_back : (a b : Disk) (s : Span) → ReadsOnly a b → Lies b s → Lies a s
lies_back a b s reads h = record { inside = inside_back a b (s.at + s.len) reads h.inside; small = h.small }

may_back : (a b : Disk) (x : Option Span) → ReadsOnly a b → IfSome x (Lies b) → IfSome x (Lies a)
may_back a b None reads h = tt
may_back a b (Some s) reads h = lies_back a b s reads h

tables_back : (a b : Disk) (ts : List Track) → ReadsOnly a b → AllByRecursion (TablesLie b) ts → AllByRecursion (TablesLie a) ts
tables_back a b [] reads h = tt
tables_back a b (t ∷ ts) reads h = (
  record { chunks = lies_back a b t.chunks reads h.0.chunks; runs = may_back a b t.stsc reads h.0.runs; sizes = may_back a b t.stsz reads h.0.sizes },
  tables_back a b ts reads h.1,
)

read_before : (a b : Disk) (m : FileMap) → ReadsOnly a b → IsRead b m → IsRead a m
unfolding range_back tables_back
read_before a b m reads of = record {
  mapped = λ o h. of.mapped o (holds_on a b o reads h);
  tells = λ o h. of.tells o (holds_on a b o reads h);
  sound = of.sound;
  lawful = of.lawful;
  ordered = of.ordered;
  inside = range_back a b (hashed_in m) reads of.inside;
  small = of.small;
  bodies_ascend = of.bodies_ascend;
  bodies_inside = λ o h. of.bodies_inside o (holds_on a b o reads h);
  tables = tables_back a b (told_in m).tracks reads of.tables;
}

pub read_back : (a b : Disk) (r : Result FileMap ReadFault) → ReadsOnly a b → IfOk r (IsRead b) → IfOk r (IsRead a)
unfolding read_before
read_back a b (Ok m) reads h = read_before a b m reads h
read_back a b (Err f) reads h = h
