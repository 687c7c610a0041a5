-- What is met between two places lies there, whatever the depot tells.
use Rattle.std.proofs.Common.{◌≡◌, ◌∙◌, ℕ, suc, ◌+◌, ◌≤◌, Bool, true, false, cond, List, [], ◌∷◌, ◌++◌, length, map, refl, sym, ap, subst, arith, length-append, Option, Some, None}
use Rattle.std.specs.Prelude.{OnOk, Result, codes}
use Rattle.std.specs.declared.result.Result.TheVariants.{Ok, Err}
use Rattle.std.specs.List.{AllByRecursion}
use Rattle.std.specs.Str.{bytes_eq}
use Rattle.part_tree.specs.Ranges.{Ascends}
use Rattle.part_tree.specs.declared.names.Span.{Span}
use Rattle.part_tree.specs.declared.part.Part.{Part}
use Rattle.part_tree.specs.declared.shows.Track.{Track}
use Rattle.container_model.specs.Tests.{or_else}
use Rattle.container_model.proofs.Walk.{all_join}
use Rattle.mov_model.specs.Atoms.{Place, dinf, file, mdia, minf, moov, stbl, trak, user_data}
use Rattle.qt_atoms.specs.Walk.{InOrder}
use Rattle.qt_atoms.specs.declared.walker.AtomAt.{AtomAt}
use Rattle.mov_file.specs.Holder.{place_of}
use Rattle.mov_file.specs.Map.{EndsBy, MayEndBy, PartEndsBy, TrackEndsBy}
use Rattle.mov_file.specs.Sound.{AllEndBy, EssenceBy, EssenceGrows, LiesIn, TablesEndBy}
use Rattle.mov_file.specs.Track.{in_last, is_wide, last_from, no_tables, places_at, span_where, tables_by, track_from, with_table}
use Rattle.mov_file.specs.Walked.{is_moov_kid, is_top}
use Rattle.mov_file.specs.declared.holder.Holder.{Holder}
use Rattle.mov_file.specs.declared.holder.Holder.TheVariants.{File, UserData, Moov, Trak, Mdia, Minf, Stbl, Dinf}
use Rattle.mov_file.specs.declared.reading.Reading.{Reading}
use Rattle.mov_file.specs.declared.track.TablesAt.{TablesAt}
use Rattle.mov_file.proofs.Kept.{Grown, Rested}

-- ---- one after the other

grows_none : (h : Holder) (at : ℕ) (r : Reading) → EssenceGrows h at at r r
grows_none File at r = λ e. e
grows_none UserData at r = refl
grows_none Moov at r = refl
grows_none Trak at r = refl
grows_none Mdia at r = refl
grows_none Minf at r = refl
grows_none Stbl at r = refl
grows_none Dinf at r = refl

pub lies_none : (h : Holder) (at : ℕ) (r : Reading) → LiesIn h at at r r
lies_none h at r = record { all = λ end le a. a; essence = grows_none h at r }

grows_then : (h : Holder) (a m z : ℕ) (x y w : Reading) → EssenceGrows h a m x y → EssenceGrows h m z y w → EssenceGrows h a z x w
grows_then File a m z x y w f g = λ e. g (f e)
grows_then UserData a m z x y w f g = g ∙ f
grows_then Moov a m z x y w f g = g ∙ f
grows_then Trak a m z x y w f g = g ∙ f
grows_then Mdia a m z x y w f g = g ∙ f
grows_then Minf a m z x y w f g = g ∙ f
grows_then Stbl a m z x y w f g = g ∙ f
grows_then Dinf a m z x y w f g = g ∙ f

pub lies_then : (h : Holder) (a m z : ℕ) (x y w : Reading) → m ≤ z → LiesIn h a m x y → LiesIn h m z y w → LiesIn h a z x w
lies_then h a m z x y w le f g = record { all = λ end more e. g.all end more (f.all end (omega (arith, le, more)) e); essence = grows_then h a m z x y w f.essence g.essence }

ends_later : (a z : ℕ) (ss : List Span) → a ≤ z → AllByRecursion (EndsBy a) ss → AllByRecursion (EndsBy z) ss
ends_later a z [] le h = tt
ends_later a z (s ∷ ss) le h = (omega (arith, le, h.0), ends_later a z ss le h.1)

pub essence_later : (a z : ℕ) (r : Reading) → a ≤ z → EssenceBy a r → EssenceBy z r
essence_later a z r le e = record { order = e.order; ends = ends_later a z r.mdats.items le e.ends }

grows_later : (h : Holder) (a m z : ℕ) (x y : Reading) → m ≤ z → EssenceGrows h a m x y → EssenceGrows h a z x y
grows_later File a m z x y le f = λ e. essence_later m z y le (f e)
grows_later UserData a m z x y le f = f
grows_later Moov a m z x y le f = f
grows_later Trak a m z x y le f = f
grows_later Mdia a m z x y le f = f
grows_later Minf a m z x y le f = f
grows_later Stbl a m z x y le f = f
grows_later Dinf a m z x y le f = f

pub lies_later : (h : Holder) (a m z : ℕ) (x y : Reading) → m ≤ z → LiesIn h a m x y → LiesIn h a z x y
lies_later h a m z x y le f = record { all = λ end more e. f.all end (omega (arith, le, more)) e; essence = grows_later h a m z x y le f.essence }

-- no atom of the file
abbrev pub IsInner : Holder → Type 0
IsInner File = ⊥
IsInner h = Unit {0}

same_essence : (q : Holder) (a z : ℕ) (x y : Reading) → IsInner q → EssenceGrows q a z x y → y.mdats.items ≡ x.mdats.items
same_essence File a z x y i f = absurd i
same_essence UserData a z x y i f = f
same_essence Moov a z x y i f = f
same_essence Trak a z x y i f = f
same_essence Mdia a z x y i f = f
same_essence Minf a z x y i f = f
same_essence Stbl a z x y i f = f
same_essence Dinf a z x y i f = f

grows_with : (h : Holder) (a z : ℕ) (x y w : Reading) → EssenceGrows h a z x y → w.mdats.items ≡ y.mdats.items → EssenceGrows h a z x w
grows_with File a z x y w f e = λ g. let r = f g in record { order = subst (Ascends 0) (sym e) r.order; ends = subst (AllByRecursion (EndsBy z)) (sym e) r.ends }
grows_with UserData a z x y w f e = e ∙ f
grows_with Moov a z x y w f e = e ∙ f
grows_with Trak a z x y w f e = e ∙ f
grows_with Mdia a z x y w f e = e ∙ f
grows_with Minf a z x y w f e = e ∙ f
grows_with Stbl a z x y w f e = e ∙ f
grows_with Dinf a z x y w f e = e ∙ f

-- an atom, and what is met in it
pub lies_inner : (h q : Holder) (a z from to : ℕ) (x y w : Reading) → IsInner q → to ≤ z → LiesIn h a z x y → LiesIn q from to y w → LiesIn h a z x w
lies_inner h q a z from to x y w i le f g = record {
  all = λ end more e. g.all end (omega (arith, le, more)) (f.all end more e);
  essence = grows_with h a z x y w f.essence (same_essence q from to y w i g.essence);
}

-- ---- one atom

ascends_push : (low p : ℕ) (ss : List Span) (s : Span) → low ≤ p → Ascends low ss → AllByRecursion (EndsBy p) ss → p ≤ s.at → Ascends low (ss ++ s ∷ [])
ascends_push low p [] s le a e at = (omega (arith, le, at), tt)
ascends_push low p (t ∷ ss) s le a e at = (a.0, ascends_push (t.at + t.len) p ss s e.0 a.1 e.1 at)

may_where : (end : ℕ) (o : Option Span) (is : Bool) (s : Span) → MayEndBy end o → EndsBy end s → MayEndBy end (or_else o (span_where is s))
may_where end None true s h e = e
may_where end None false s h e = tt
may_where end (Some t) is s h e = h

with_ends : (end : ℕ) (id : List ℕ) (s : Span) (t : TablesAt) → EndsBy end s → TablesEndBy end t → TablesEndBy end (with_table id s t)
with_ends end id s t e h = record {
  narrow = may_where end t.narrow (bytes_eq id (codes "stco")) s h.narrow e;
  wide = may_where end t.wide (bytes_eq id (codes "co64")) s h.wide e;
  runs = may_where end t.runs (bytes_eq id (codes "stsc")) s h.runs e;
  sizes = may_where end t.sizes (bytes_eq id (codes "stsz")) s h.sizes e;
}

last_ends : (end : ℕ) (f : TablesAt → TablesAt) → ((t : TablesAt) → TablesEndBy end t → TablesEndBy end (f t)) → (t : TablesAt) (ts : List TablesAt) → AllByRecursion (TablesEndBy end) (t ∷ ts) → AllByRecursion (TablesEndBy end) (last_from f t ts)
last_ends end f g t [] h = (g t h.0, tt)
last_ends end f g t (u ∷ ts) h = (h.0, last_ends end f g u ts h.1)

last_long : (f : TablesAt → TablesAt) (t : TablesAt) (ts : List TablesAt) → length (last_from f t ts) ≡ suc (length ts)
last_long f t [] = refl
last_long f t (u ∷ ts) = ap suc (last_long f u ts)

-- the tables of tracks, with an atom
record TablesFine (end n : ℕ) (ts : List TablesAt) : Type 0 where
  ends : AllByRecursion (TablesEndBy end) ts
  few : length ts ≤ n

last_fine : (end n : ℕ) (id : List ℕ) (s : Span) (ts : List TablesAt) → EndsBy end s → TablesFine end n ts → TablesFine end n (in_last (with_table id s) ts)
last_fine end n id s [] e h = h
last_fine end n id s (t ∷ ts) e h = record {
  ends = last_ends end (with_table id s) (λ u g. with_ends end id s u e g) t ts h.ends;
  few = omega (arith, last_long (with_table id s) t ts, h.few);
}

push_fine : (end n : ℕ) (is : Bool) (ts : List TablesAt) → TablesFine end n ts → TablesFine end (cond is (n + 1) n) (cond is (ts ++ no_tables ∷ []) ts)
push_fine end n true ts h = record {
  ends = all_join (TablesEndBy end) ts (no_tables ∷ []) h.ends (record { narrow = tt; wide = tt; runs = tt; sizes = tt }, tt);
  few = omega (arith, length-append ts (no_tables ∷ []), h.few);
}
push_fine end n false ts h = h

tables_fine : (h : Holder) (end n : ℕ) (id : List ℕ) (s : Span) (ts : List TablesAt) → EndsBy end s → TablesFine end n ts → TablesFine end (cond (is_moov_kid (place_of h) (bytes_eq id (codes "trak"))) (n + 1) n) (tables_by (place_of h) id s ts)
tables_fine File end n id s ts e f = f
tables_fine UserData end n id s ts e f = f
tables_fine Moov end n id s ts e f = push_fine end n (bytes_eq id (codes "trak")) ts f
tables_fine Trak end n id s ts e f = f
tables_fine Mdia end n id s ts e f = f
tables_fine Minf end n id s ts e f = f
tables_fine Stbl end n id s ts e f = last_fine end n id s ts e f
tables_fine Dinf end n id s ts e f = f

list_nil : {A : Type 0} (xs : List A) → xs ++ [] ≡ xs
list_nil xs = Rattle.std.proofs.lemmas.List.append-nil xs

pub lies_met : (h : Holder) (k : AtomAt) (old new : Reading) → InOrder k.at k.next k → Grown h k old new → LiesIn h k.at k.next old new
lies_met h k old new order g = record { all = all; essence = essence h g.mdats }
  where
    part : Part
    part = record { id = k.kind; at = k.at; body = k.body; next = k.next; role = Rattle.mov_file.specs.Walked.role_by (place_of h) old.has_user (Rattle.container_model.specs.Atoms.atom k.kind.0 []) }

    all : (end : ℕ) → k.next ≤ end → AllEndBy end old → AllEndBy end new
    all end le a =
        let tables = tables_fine h end old.track k.kind.0 k.body old.tracks.items (omega (arith, order.behind, le)) (record { ends = a.tables; few = a.tracks }) in
        let parts : AllByRecursion (PartEndsBy end) (old.parts.items ++ part ∷ []) =
        all_join (PartEndsBy end) old.parts.items (part ∷ []) a.parts (record { head = omega (arith, order.body); body = omega (arith, order.behind); next = le }, tt)
        in
        record {
          parts = subst (AllByRecursion (PartEndsBy end)) (sym g.parts) parts;
          tables = subst (AllByRecursion (TablesEndBy end)) (sym g.tracks) tables.ends;
          tracks = omega (arith, ap length g.tracks, g.track, tables.few);
        }

    top : new.mdats.items ≡ old.mdats.items ++ cond (bytes_eq k.kind.0 (codes "mdat")) (k.body ∷ []) [] → EssenceBy k.at old → EssenceBy k.next new
    top e was = go (bytes_eq k.kind.0 (codes "mdat")) e
      where
        go : (t : Bool) → new.mdats.items ≡ old.mdats.items ++ cond t (k.body ∷ []) [] → EssenceBy k.next new
        go true f = record {
          order = subst (Ascends 0) (sym f) (ascends_push 0 k.at old.mdats.items k.body (omega arith) was.order was.ends (omega (arith, order.body)));
          ends = subst (AllByRecursion (EndsBy k.next)) (sym f) (all_join (EndsBy k.next) old.mdats.items (k.body ∷ []) (ends_later k.at k.next old.mdats.items (omega (arith, order.body, order.behind)) was.ends) (omega (arith, order.behind), tt));
        }
        go false f =
            let same : new.mdats.items ≡ old.mdats.items = f ∙ list_nil old.mdats.items in
            record { order = subst (Ascends 0) (sym same) was.order; ends = subst (AllByRecursion (EndsBy k.next)) (sym same) (ends_later k.at k.next old.mdats.items (omega (arith, order.body, order.behind)) was.ends) }

    essence : (h : Holder) → new.mdats.items ≡ old.mdats.items ++ cond (is_top (place_of h) (bytes_eq k.kind.0 (codes "mdat"))) (k.body ∷ []) [] → EssenceGrows h k.at k.next old new
    essence File e = top e
    essence UserData e = e ∙ list_nil old.mdats.items
    essence Moov e = e ∙ list_nil old.mdats.items
    essence Trak e = e ∙ list_nil old.mdats.items
    essence Mdia e = e ∙ list_nil old.mdats.items
    essence Minf e = e ∙ list_nil old.mdats.items
    essence Stbl e = e ∙ list_nil old.mdats.items
    essence Dinf e = e ∙ list_nil old.mdats.items

-- ---- the tracks

may_places : (end : ℕ) (n w : Option Span) → MayEndBy end n → MayEndBy end w → EndsBy end (places_at n w)
may_places end (Some s) w h g = h
may_places end None (Some s) h g = g
may_places end None None h g = omega arith

pub tracks_end : (end : ℕ) (ts : List TablesAt) → AllByRecursion (TablesEndBy end) ts → AllByRecursion (TrackEndsBy end) (map track_from ts)
tracks_end end [] h = tt
tracks_end end (t ∷ ts) h = (record { chunks = may_places end t.narrow t.wide h.0.narrow h.0.wide; runs = h.0.runs; sizes = h.0.sizes }, tracks_end end ts h.1)

-- ---- what is opened

not_file : (p : Place) (id : List ℕ) → Some file ≡ Rattle.mov_model.specs.Atoms.opens p id [] → ⊥
not_file file id e = absurd cc
not_file user_data id e = absurd cc
not_file moov id e = go (bytes_eq id (codes "trak")) e
  where
    go : (t : Bool) → Some file ≡ Rattle.mov_model.specs.Atoms.when t trak → ⊥
    go true f = absurd cc
    go false f = absurd cc
not_file trak id e = go (bytes_eq id (codes "mdia")) e
  where
    go : (t : Bool) → Some file ≡ Rattle.mov_model.specs.Atoms.when t mdia → ⊥
    go true f = absurd cc
    go false f = absurd cc
not_file mdia id e = go (bytes_eq id (codes "minf")) e
  where
    go : (t : Bool) → Some file ≡ Rattle.mov_model.specs.Atoms.when t minf → ⊥
    go true f = absurd cc
    go false f = absurd cc
not_file minf id e = go (bytes_eq id (codes "stbl")) (bytes_eq id (codes "dinf")) e
  where
    go : (t u : Bool) → Some file ≡ Rattle.mov_model.specs.Atoms.either t stbl (Rattle.mov_model.specs.Atoms.when u dinf) → ⊥
    go true u f = absurd cc
    go false true f = absurd cc
    go false false f = absurd cc
not_file stbl id e = absurd cc
not_file dinf id e = absurd cc

pub opened_inner : (q : Holder) (p : Place) (id : List ℕ) → Some (place_of q) ≡ Rattle.mov_model.specs.Atoms.opens p id [] → IsInner q
opened_inner File p id e = not_file p id e
opened_inner UserData p id e = tt
opened_inner Moov p id e = tt
opened_inner Trak p id e = tt
opened_inner Mdia p id e = tt
opened_inner Minf p id e = tt
opened_inner Stbl p id e = tt
opened_inner Dinf p id e = tt

-- ---- a rest

grows_same : (h : Holder) (a z : ℕ) (x y : Reading) → a ≤ z → y.mdats.items ≡ x.mdats.items → EssenceGrows h a z x y
grows_same h a z x y le e = grows_later h a a z x y le (grows_with h a a x x y (grows_none h a x) e)

parts_later : (a z : ℕ) (ps : List Part) → a ≤ z → AllByRecursion (PartEndsBy a) ps → AllByRecursion (PartEndsBy z) ps
parts_later a z [] le h = tt
parts_later a z (p ∷ ps) le h = (record { head = h.0.head; body = h.0.body; next = omega (arith, le, h.0.next) }, parts_later a z ps le h.1)

pub lies_rest : (h : Holder) (at end : ℕ) (ps : List Part) (old new : Reading) → at ≤ end → AllByRecursion (PartEndsBy end) ps → Rested ps old new → LiesIn h at end old new
lies_rest h at end ps old new le fine r = record {
  all = λ z more a. record {
    parts = subst (AllByRecursion (PartEndsBy z)) (sym r.parts) (all_join (PartEndsBy z) old.parts.items ps a.parts (parts_later end z ps more fine));
    tables = subst (AllByRecursion (TablesEndBy z)) (sym r.tracks) a.tables;
    tracks = omega (arith, ap length r.tracks, r.track, a.tracks);
  };
  essence = grows_same h at end old new le r.mdats;
}

pub on_ok : {A E : Type 0} {P Q : Type 0} (r : Result A E) → (P → Q) → OnOk r P → OnOk r Q
on_ok (Ok x) f p = f p
on_ok (Err e) f p = tt
