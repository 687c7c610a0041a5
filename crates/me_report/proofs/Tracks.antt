-- The lines of tracks, one after the other.
use Rattle.std.proofs.Common.{◌≡◌, ◌∙◌, ℕ, zero, suc, ◌+◌, ◌<◌, ◌≤◌, false, List, [], ◌∷◌, ◌++◌, length, drop, get_or, refl, sym, ap, arith, append_assoc, None}
use Rattle.std.proofs.lemmas.List.{at_drop_more, at_drop_all, append-nil}
use Rattle.part_tree.specs.declared.names.Span.{Span}
use Rattle.part_tree.specs.declared.shows.Track.{Track}
use Rattle.track_samples.specs.Tables.{chunk_count, sample_count}
use Rattle.me_report.specs.Report.{counted_line, track_lines}

-- what a place behind the last track would hold
abbrev pub no_track : Track
no_track = record { chunks = record { at = 0; len = 0 }; wide = false; stsc = None; stsz = None }

pub next_track : (b : List ℕ) (bodies : List Span) (ts : List Track) (k n chunks samples : ℕ) (d : Track) (done new whole : List ℕ) → k < length ts
    → chunks ≡ chunk_count b (get_or ts k d) → samples ≡ sample_count b bodies (get_or ts k d) → new ≡ done ++ counted_line n chunks samples
    → done ++ track_lines b bodies n (drop k ts) ≡ whole → new ++ track_lines b bodies (n + 1) (drop (k + 1) ts) ≡ whole
next_track b bodies ts k n chunks samples d done new whole lt many few put so_far =
    let t = get_or ts k d in
    let rest = track_lines b bodies (n + 1) (drop (k + 1) ts) in
    let next : suc n ≡ n + 1 = omega arith in
    let split : track_lines b bodies n (drop k ts) ≡ counted_line n chunks samples ++ rest =
    at_drop_more (track_lines b bodies n) ts k d lt
    ∙ ap (λ (i : ℕ). counted_line n (chunk_count b t) (sample_count b bodies t) ++ track_lines b bodies i (drop (k + 1) ts)) next
    ∙ ap (λ (i : ℕ). counted_line n i (sample_count b bodies t) ++ rest) (sym many)
    ∙ ap (λ (i : ℕ). counted_line n chunks i ++ rest) (sym few) in
    ap (λ (x : List ℕ). x ++ rest) put ∙ append_assoc done (counted_line n chunks samples) rest ∙ ap (λ (x : List ℕ). done ++ x) (sym split) ∙ so_far

pub all_tracks : (b : List ℕ) (bodies : List Span) (ts : List Track) (k n : ℕ) (done whole : List ℕ) → length ts ≤ k → done ++ track_lines b bodies n (drop k ts) ≡ whole → done ≡ whole
all_tracks b bodies ts k n done whole le so_far =
    sym (append-nil done) ∙ ap (λ (x : List ℕ). done ++ x) (sym (at_drop_all (track_lines b bodies n) ts k le)) ∙ so_far
