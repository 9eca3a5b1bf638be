-- A trace that is kept as a whole is played as it is asked for.
use Rattle.std.specs.Prelude.{◌≡◌, ℕ, zero, suc, ◌+◌, ◌<◌, ◌^◌, true, false, List, [], ◌∷◌, ◌++◌, length, map, take, drop, Option, IfSome, refl}
use Rattle.std.specs.List.{AllZip}
use Rattle.std.proofs.Common.{arith, ap, sym, subst, ◌∙◌}
use Rattle.std.proofs.lemmas.List.{length-append, take-append-drop}
use Rattle.guest_strings.specs.declared.reference.Reference.{Reference}
use Rattle.page_policies.specs.declared.frames.Frames.{Frames}
use Rattle.miss_counts.specs.Counted.{IsRow}
use Rattle.miss_counts.specs.FrameNumbers.{frames_for}
use Rattle.whole_strings.specs.PageCounts.{page_count}
use Rattle.miss_counts.specs.StringPages.{pages_of}
use Rattle.miss_counts.specs.Replayed.{HavePlayed, IsReplayed, RowsPlay, RowsSkip, RowsTell}
use Rattle.miss_counts.specs.declared.counts.PolicyCounts.{PolicyCounts}
use Rattle.miss_counts.specs.declared.policy_set.PolicySet.{PolicySet}
use Rattle.miss_counts.specs.declared.rows.Rows.{Rows}
use Rattle.miss_counts.proofs.ReplayLaws.{whole_replayed, played_replayed}
use Rattle.policies_requests.specs.declared.request.ReplayRequest.{ReplayRequest}
use Rattle.trace_files.specs.References.{Trace}
use Rattle.trace_files.specs.ReferenceAnswers.{IsWhole}
use Rattle.policies_cli.specs.Replays.{PlaysParts, ReplaysAsAsked}

pub kept_as_asked : (request : ReplayRequest) (trace : Option Trace) (string : List Reference) (frames : List Frames) (rows : List PolicyCounts) → IfSome trace (IsWhole string) → request.skip < length string
    → map (λ (f : Frames). f.number) frames ≡ map (frames_for (page_count (pages_of string))) request.sizes.items → AllZip (IsReplayed request.wanted request.skip string) frames rows → ReplaysAsAsked request rows trace
kept_as_asked request trace string frames rows told some numbered zipped =
    record { string = string; told = told; some = some; table = record { frames = frames; numbered = numbered; counted_each = zipped } }

-- where the optimum is asked for none are skipped
pub whole_as_asked : (request : ReplayRequest) (trace : Option Trace) (string : List Reference) (frames : List Frames) (rows : List PolicyCounts) → request.wanted.optimum ≡ true → IfSome trace (IsWhole string) → 0 < length string
    → map (λ (f : Frames). f.number) frames ≡ map (frames_for (page_count (pages_of string))) request.sizes.items → AllZip (IsRow request.wanted string) frames rows → ReplaysAsAsked request rows trace
whole_as_asked request trace string frames rows wanted told some numbered zipped =
    let none : request.skip ≡ 0 = request.whole wanted in
    kept_as_asked request trace string frames rows told (omega (arith, none, some)) numbered
    (subst (λ (n : ℕ). AllZip (IsReplayed request.wanted n string) frames rows) (sym none) (whole_replayed request.wanted string frames rows zipped))

-- what is played in two parts
pub halves_replayed : (wanted : PolicySet) (front rest : List Reference) (frames : List Frames) (a b c d : Rows) (counts : List PolicyCounts) → wanted.optimum ≡ false → length (front ++ rest) < 2 ^ 64
    → HavePlayed wanted.policies.items frames [] [] a → RowsPlay front a b → RowsSkip b c → RowsPlay rest c d → RowsTell d counts → AllZip (IsReplayed wanted (length front) (front ++ rest)) frames counts
unfolding RowsPlay RowsSkip
halves_replayed wanted front rest frames a b c d counts none fit have first skips second tells =
    let sized : length (front ++ rest) ≡ length front + length rest = length-append front rest in
    let played : HavePlayed wanted.policies.items frames [] front b = first wanted.policies.items frames [] [] (omega (arith, sized, fit)) have in
    let skipped : HavePlayed wanted.policies.items frames front [] c = skips wanted.policies.items frames [] front played in
    let whole : HavePlayed wanted.policies.items frames front rest d = second wanted.policies.items frames front [] (omega (arith, sized, fit)) skipped in
    played_replayed wanted front rest frames d counts none whole tells

pub parts_played : (request : ReplayRequest) (string front rest : List Reference) (a b c d : Rows) (counts : List PolicyCounts) → length string < 2 ^ 64 → length front ≡ request.skip
    → front ++ rest ≡ string → RowsPlay front a b → RowsSkip b c → RowsPlay rest c d → RowsTell d counts → PlaysParts request string a counts
parts_played request string front rest a b c d counts fit size whole first skips second tells = λ frames none have.
    let same : length (front ++ rest) ≡ length string = ap length whole in
    subst (λ (n : ℕ). AllZip (IsReplayed request.wanted n string) frames counts) size
    (subst (λ (l : List Reference). AllZip (IsReplayed request.wanted (length front) l) frames counts) whole (halves_replayed request.wanted front rest frames a b c d counts none (omega (arith, same, fit)) have first skips second tells))

-- a string that is cut in two
pub cut_played : (request : ReplayRequest) (string : List Reference) (a b c d : Rows) (counts : List PolicyCounts) → length string < 2 ^ 64 → request.skip < length string
    → RowsPlay (take request.skip string) a b → RowsSkip b c → RowsPlay (drop request.skip string) c d → RowsTell d counts → PlaysParts request string a counts
cut_played request string a b c d counts fit some first skips second tells =
    parts_played request string (take request.skip string) (drop request.skip string) a b c d counts fit (long request.skip string some) (take-append-drop request.skip string) first skips second tells
  where
    long : (n : ℕ) (l : List Reference) → n < length l → length (take n l) ≡ n
    long zero l h = refl
    long (suc n) [] h = absurd (omega (arith, h))
    long (suc n) (k ∷ l) h = ap suc (long n l (omega (arith, h)))

-- what is told of parts that were played is told of the request
pub kept_played : (request : ReplayRequest) (trace : Option Trace) (string : List Reference) (frames : List Frames) (rows : Rows) (counts : List PolicyCounts) → request.wanted.optimum ≡ false → IfSome trace (IsWhole string)
    → request.skip < length string → map (λ (f : Frames). f.number) frames ≡ map (frames_for (page_count (pages_of string))) request.sizes.items → HavePlayed request.wanted.policies.items frames [] [] rows → PlaysParts request string rows counts
    → ReplaysAsAsked request counts trace
kept_played request trace string frames rows counts none told some numbered have plays = kept_as_asked request trace string frames counts told some numbered (plays frames none have)
