-- The lists of the streams in `hdrl`, and what an edit of their names comes to (AVI RIFF File Reference, strl and strn).
use Rattle.std.specs.Prelude.{◌≡◌, ◌≤◌, ⊤, ◌⊎◌, ℕ, suc, ◌+◌, ◌-◌, ◌%◌, ◌==◌, min, filter, List, [], ◌∷◌, ◌++◌, length, drop, map, true, false, ◌&&◌, Option, Some, None}
use Rattle.std.specs.List.{flat_map, list_all, AllByRecursion}
use Rattle.part_tree.specs.declared.names.Span.{Span}
use Rattle.container_model.specs.Chunk.{riff, Chunk, Pads, ends, spell, spell_all}
use Rattle.container_model.specs.Items.{listed}
use Rattle.container_model.specs.Stood.{Stood}
use Rattle.container_model.specs.Units.{lay}
use Rattle.carrier_model.specs.Info.{list_run}
use Rattle.unit_plan.specs.Cuts.{FitsIn, IsExact, SpansAscend, cut_in, patch_of}
use Rattle.avi_names.specs.Names.{chunks_of}
use Rattle.avi_model.specs.Avi.{avi_of, body_span, hdrls, strls}
use Rattle.avi_model.specs.Named.{Name, Names, Site, ends_list, is_named, names_after, new_names, strl_fill, strl_pieces}
use Rattle.avi_model.specs.RoomAfter.{strl_fits, strl_patches}
use Rattle.avi_plan.specs.Form.{IsFormOf}
use Rattle.avi_plan.specs.NamesAt.{strl_needed}
use Rattle.avi_plan.specs.declared.form.FormAt.{FormAt}
use Rattle.avi_plan.specs.declared.streams.StreamName.{StreamName}
use Rattle.avi_plan.specs.declared.streams.StreamSpans.{StreamSpans}

-- ---- an edit

abbrev pub told_name : StreamName → Name
told_name n = record { stream = n.stream; value = n.body }

abbrev pub told : List StreamName → Names
told ns = map told_name ns

-- what becomes of a stream's name, or none where the edit doesn't name the stream
abbrev pub NameIs : Names → ℕ → Option StreamName → Type 0
NameIs e n None = is_named e n ≡ false
NameIs e n (Some x) = (is_named e n ≡ true) × (names_after e n [] ≡ listed x.body)

-- ---- where the lists stand

-- a list behind its type
abbrev pub behind_type : Stood → Span
behind_type x = record { at = x.at + 12; len = length x.chunk.body - 4 }

-- the form, the body of `hdrl`, and the lists of the streams
pub record TellsStreams (b : List ℕ) (f : FormAt) (hdrl : Span) (streams : List Span) : Type 0 where
  pub form : IsFormOf b f
  pub hdrl_is : hdrl ∷ [] ≡ map body_span (hdrls (avi_of b))
  pub streams_are : streams ≡ map behind_type (strls (avi_of b))

-- whatever the file: `hdrl` has its type, and lies in the form
pub record LiesIn (f : FormAt) (hdrl : Span) : Type 0 where
  pub low : 20 ≤ hdrl.at
  pub typed : 4 ≤ hdrl.len
  pub inside : hdrl.at + hdrl.len ≤ 8 + f.size

-- A stream's list in a file of so many bytes, where `hdrl` ends at a place; it is told behind its type.
pub record IsSite (b : List ℕ) (end len : ℕ) (span : Span) (s : Site) : Type 0 where
  pub form_is : s.chunk.form ≡ riff
  pub id_len : length s.chunk.id ≡ 4
  pub long : 4 ≤ length s.chunk.body
  pub told : span ≡ record { at = s.at + 12; len = length s.chunk.body - 4 }
  pub reads : chunks_of b span ≡ list_run s.chunk
  pub whole : (list_run s.chunk).stop ≡ ends
  pub pads : Pads (list_run s.chunk).chunks (list_run s.chunk).left
  pub spelled : spell_all (list_run s.chunk).chunks ++ (list_run s.chunk).left ≡ drop 4 s.chunk.body
  pub inside : s.at + 8 + length s.chunk.body ≤ end
  pub next : s.at + length (spell s.chunk) ≡ min end (s.at + 8 + length s.chunk.body + length s.chunk.body % 2)
  pub last : (s.ends && ends_list s.chunk) ≡ ((s.at + 12 + length (spell_all (list_run s.chunk).chunks)) == len)

-- the chunks of each stream's list end with it
abbrev pub StreamsEnd : List ℕ → List Span → Type 0
StreamsEnd b xs = AllByRecursion (λ x. (chunks_of b x).stop ≡ ends) xs

-- the lists of all streams, numbered from a number on, from a place on
abbrev pub AreSites : List ℕ → ℕ → ℕ → ℕ → ℕ → List Span → List Site → Type 0
AreSites b end len n from [] [] = ⊤
AreSites b end len n from [] (s ∷ ss) = ⊥
AreSites b end len n from (x ∷ xs) [] = ⊥
AreSites b end len n from (x ∷ xs) (s ∷ ss) = IsSite b end len x s × (s.stream ≡ n) × (from ≤ s.at) × AreSites b end len (suc n) (s.at + length (spell s.chunk)) xs ss

-- those that an edit names
abbrev pub named_among : Names → List Site → List Site
named_among e ss = filter (λ (s : Site). is_named e s.stream) ss

-- ---- what an edit comes to

-- the chunks of a stream's list then
abbrev pub strl_then : Names → Site → List Chunk
strl_then e s = lay (strl_fill s.ends s.chunk) (strl_pieces (new_names e s.stream) s.chunk)

-- how many chunks some lists have, and how many then
abbrev pub count_was : List Site → ℕ
count_was [] = 0
count_was (s ∷ ss) = length (list_run s.chunk).chunks + count_was ss

abbrev pub count_now : Names → List Site → ℕ
count_now e [] = 0
count_now e (s ∷ ss) = length (strl_then e s) + count_now e ss

-- the spans of these lists, their patches, whether their units fit, and how many chunks they have
pub record StreamsTold (b : List ℕ) (e : Names) (ss : List Site) (r : StreamSpans) : Type 0 where
  pub cuts_are : map (cut_in b) r.cuts.items ≡ flat_map (strl_needed e) ss
  pub patches : r.fits ≡ true → flat_map patch_of r.cuts.items ≡ flat_map (strl_patches e) ss
  pub fits : r.fits ≡ list_all (strl_fits e) ss
  pub was : r.was ≡ count_was ss
  pub now : r.now ≡ count_now e ss

-- by numbers alone: the spans ascend from a place up to another in a file of so many bytes
pub record AreInside (from end len : ℕ) (r : StreamSpans) : Type 0 where
  pub ascend : SpansAscend from r.cuts.items r.at
  pub inside : r.at ≤ end
  pub fits : r.fits ≡ true → AllByRecursion IsExact r.cuts.items ⊎ ((r.at ≡ len) × FitsIn len r.cuts.items)
