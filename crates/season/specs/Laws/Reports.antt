-- What order 8 asks to be proved of reports: a cut season joined is the whole, joining is associative, done and refusals add up to the files,
-- each total is a sum over the files.
use Rattle.std.specs.Prelude.{◌≡◌, refl, true, List, [], ◌∷◌, ◌++◌, map, ℕ, ◌+◌, ◌<◌, length, get_or, set, replicate, ltb}
use Rattle.std.proofs.Common.{sym, ap, ◌∙◌, arith, length-append, length-set, take_at}
use Rattle.std.proofs.Math.Option.{Option, none, some}
use Rattle.std.proofs.lemmas.List.{length-replicate, get_or-replicate}
use Rattle.basis.specs.Members.{split, All}
use Rattle.season.specs.declared.Own.{Own}
use Rattle.season.specs.Report.{Report, Joining, whole, sum, sums, files, deeper, join, empty, fits_widths, joined_reports, or_kept}
use Rattle.season.specs.Season.{adds, share, season_from, season, NoWide, Known}
use Rattle.season.specs.Laws.Sums.{sums_assoc, zero_sums, sums_zero, length_sums, sum_sums, get_d_sums, sum_one, deeper_none, none_deeper, deeper_assoc}

-- a report has its 24 counts
abbrev pub Full : Report → Type 0
Full r = length r.counts ≡ 24

module _ (r s : Report) (fr : Full r) (fs : Full s) where
  alike : length r.counts ≡ length s.counts
  alike = fr ∙ sym fs

  pub join_full : Full (join r s)
  unfolding join
  join_full = length_sums r.counts s.counts alike ∙ fr

  pub files_join : files (join r s) ≡ files r + files s
  unfolding files join
  files_join = sum_sums 19 r.counts s.counts alike

  -- "each total is the sum over the files' own answers"
  pub count_join : (k : ℕ) → get_or (join r s).counts k 0 ≡ get_or r.counts k 0 + get_or s.counts k 0
  unfolding join
  count_join k = get_d_sums r.counts s.counts k alike

pub empty_full : Full empty
unfolding empty
empty_full = refl

files_empty : files empty ≡ 0
unfolding files empty
files_empty = refl

pub join_assoc : (r s t : Report) → Full r → Full s → join (join r s) t ≡ join r (join s t)
unfolding join
join_assoc r s t fr fs =
    let c : sums (sums r.counts s.counts) t.counts ≡ sums r.counts (sums s.counts t.counts) =
    sums_assoc r.counts s.counts t.counts in
    let f : files (join r s) ≡ files r + files s = files_join r s fr fs in
    let d : deeper (files (join r s)) (deeper (files r) r.deepest s.deepest) t.deepest
    ≡ deeper (files r) r.deepest (deeper (files s) s.deepest t.deepest) =
    ap (λ (n : ℕ). deeper n (deeper (files r) r.deepest s.deepest) t.deepest) f
    ∙ deeper_assoc (files r) (files s) r.deepest s.deepest t.deepest in
    reports c d
  where
    reports : {c₁ c₂ : List ℕ} {d₁ d₂ : Option (ℕ × ℕ)} → c₁ ≡ c₂ → d₁ ≡ d₂
        → ◌≡◌ {A = Report} (record { counts = c₁; deepest = d₁ }) (record { counts = c₂; deepest = d₂ })
    reports c d = cc

pub join_empty : (r : Report) → Full r → join r empty ≡ r
unfolding join empty
join_empty r f = rw (sums_zero 24 r.counts f, deeper_none (files r) r.deepest)

pub empty_join : (r : Report) → Full r → join empty r ≡ r
unfolding join empty files
empty_join r f = rw (zero_sums 24 r.counts f, none_deeper r.deepest)

-- ---- one file

pub share_full : (a : Own) → Full (share a)
unfolding share
share_full a =
    length-append (set (replicate 19 0) a.number 1) _
    ∙ rw (length-set {A = ℕ} (replicate 19 0) a.number 1) (split (adds a.number) (λ t. rw t) (λ t. rw t))

-- a file is one file
pub files_share : (a : Own) → Known a → files (share a) ≡ 1
unfolding share files
files_share a h =
    ap sum (take_at (set (replicate 19 0) a.number 1) _ 19 (length-set {A = ℕ} (replicate 19 0) a.number 1 ∙ length-replicate {A = ℕ} 19 0))
    ∙ sum_one 19 a.number (omega arith)

-- ---- many files, whatever the size of the sums

unfoldable pub total_from : Report → List Own → Report
total_from r [] = r
total_from r (a ∷ xs) = total_from (join r (share a)) xs

joined_whole : (r s : Report) → fits_widths (join r s) ≡ true → joined_reports r s ≡ whole (join r s)
unfolding joined_reports
joined_whole r s h = rw (h, joined_reports)

-- without 14 the season is that
pub season_total : (r : Report) (xs : List Own) → NoWide r xs → season_from r xs ≡ total_from r xs
unfolding season_from total_from joined_reports
season_total r [] h = refl
season_total r (a ∷ xs) h = ap (λ (j : Joining). season_from (or_kept r j) xs) (joined_whole r (share a) h.0) ∙ (season_total (join r (share a)) xs h.1)

pub total_append : (r : Report) (xs ys : List Own) → total_from r (xs ++ ys) ≡ total_from (total_from r xs) ys
unfolding total_from
total_append r [] ys = refl
total_append r (a ∷ xs) ys = total_append (join r (share a)) xs ys

total_full : (r : Report) (xs : List Own) → Full r → Full (total_from r xs)
unfolding total_from
total_full r [] f = f
total_full r (a ∷ xs) f = total_full (join r (share a)) xs (join_full r (share a) f (share_full a))

total_join : (r s : Report) (ys : List Own) → Full r → Full s → total_from (join r s) ys ≡ join r (total_from s ys)
unfolding total_from
total_join r s [] f g = refl
total_join r s (a ∷ ys) f g =
    ap (λ (t : Report). total_from t ys) (join_assoc r s (share a) f g)
    ∙ total_join r (join s (share a)) ys f (join_full s (share a) g (share_full a))

pub total_cut : (xs ys : List Own) → total_from empty (xs ++ ys) ≡ join (total_from empty xs) (total_from empty ys)
total_cut xs ys =
    let f : Full (total_from empty xs) = total_full empty xs empty_full in
    total_append empty xs ys
    ∙ ap (λ (t : Report). total_from t ys) (sym (join_empty (total_from empty xs) f))
    ∙ total_join (total_from empty xs) empty ys f empty_full

-- ---- the season

no_wide_left : (r : Report) (xs ys : List Own) → NoWide r (xs ++ ys) → NoWide r xs
no_wide_left r [] ys h = tt
no_wide_left r (a ∷ xs) ys h = (h.0, no_wide_left (join r (share a)) xs ys h.1)

-- the last report of files that got no 14 fits
total_fits : (r : Report) (xs : List Own) → fits_widths r ≡ true → NoWide r xs → fits_widths (total_from r xs) ≡ true
unfolding total_from
total_fits r [] f h = f
total_fits r (a ∷ xs) f h = total_fits (join r (share a)) xs h.0 h.1

empty_fits : fits_widths empty ≡ true
unfolding fits_widths empty files
empty_fits = refl

-- "a season cut into two reports joined gives the report of the whole .. the joining rule is for seasons without 14"
pub cut : (xs ys : List Own) → NoWide empty (xs ++ ys) → NoWide empty ys → joined_reports (season xs) (season ys) ≡ whole (season (xs ++ ys))
unfolding season
cut xs ys h k =
    let a : season xs ≡ total_from empty xs = season_total empty xs (no_wide_left empty xs ys h) in
    let b : season ys ≡ total_from empty ys = season_total empty ys k in
    let c : season (xs ++ ys) ≡ total_from empty (xs ++ ys) = season_total empty (xs ++ ys) h in
    let w : join (season xs) (season ys) ≡ season (xs ++ ys) = rw (a, b, c) (sym (total_cut xs ys)) in
    let f : fits_widths (season (xs ++ ys)) ≡ true = rw c (total_fits empty (xs ++ ys) empty_fits h) in
    joined_whole (season xs) (season ys) (ap fits_widths w ∙ f) ∙ ap whole w

-- "Done and all refusals add up to the files"
files_from : (r : Report) (xs : List Own) → Full r → All Known xs → files (total_from r xs) ≡ files r + length xs
unfolding total_from
files_from r [] f k = omega arith
files_from r (a ∷ xs) f k =
    let e : files (join r (share a)) ≡ files r + files (share a) = files_join r (share a) f (share_full a) in
    let o : files (share a) ≡ 1 = files_share a k.0 in
    files_from (join r (share a)) xs (join_full r (share a) f (share_full a)) k.1 ∙ omega arith

pub files_season : (xs : List Own) → NoWide empty xs → All Known xs → files (season xs) ≡ length xs
unfolding season
files_season xs h k = rw (season_total empty xs h) (files_from empty xs empty_full k ∙ rw files_empty (omega arith))

-- "each total is the sum over the files' own answers": count n
count_from : (n : ℕ) (r : Report) (xs : List Own) → Full r → get_or (total_from r xs).counts n 0 ≡ get_or r.counts n 0
    + sum (map (λ a. get_or (share a).counts n 0) xs)
unfolding total_from
count_from n r [] f = omega arith
count_from n r (a ∷ xs) f =
    let e : get_or (join r (share a)).counts n 0 ≡ get_or r.counts n 0 + get_or (share a).counts n 0 = count_join r (share a) f (share_full a) n in
    count_from n (join r (share a)) xs (join_full r (share a) f (share_full a)) ∙ omega arith

pub count_season : (n : ℕ) (xs : List Own) → NoWide empty xs → n < 24 → get_or (season xs).counts n 0 ≡ sum (map (λ a. get_or (share a).counts n 0) xs)
unfolding season empty
count_season n xs h l = rw (season_total empty xs h) (count_from n empty xs empty_full ∙ rw (get_or-replicate {A = ℕ} 24 n 0 0 l) (omega arith))

-- ---- the first file of a season's report is one of its files: where the number of files fits, so does its number

abbrev pub Named : ℕ → Option (ℕ × ℕ) → Type 0
Named n none = Unit {0}
Named n (some p) = p.1 < n

deeper_named : (m n : ℕ) (a b : Option (ℕ × ℕ)) → Named m a → Named n b → Named (m + n) (deeper m a b)
deeper_named m n none none h k = tt
deeper_named m n none (some q) h k = omega arith
deeper_named m n (some p) none h k = omega arith
deeper_named m n (some p) (some q) h k = split (ltb p.0 q.0) (λ t. rw (t, deeper) (omega arith)) (λ t. rw (t, deeper) (omega arith))

pub join_named : (r s : Report) → Full r → Full s → Named (files r) r.deepest → Named (files s) s.deepest → Named (files (join r s)) (join r s).deepest
unfolding join
join_named r s f g h k = rw (files_join r s f g) (deeper_named (files r) (files s) r.deepest s.deepest h k)

share_named : (a : Own) → Known a → Named (files (share a)) (share a).deepest
unfolding share
share_named a h =
    rw (files_share a h) (split (adds a.number) (λ t. rw (t, Named) (let z : 0 < 1 = omega arith in z)) (λ t. rw (t, Named) tt))

total_named : (r : Report) (xs : List Own) → Full r → Named (files r) r.deepest → All Known xs → Named (files (total_from r xs)) (total_from r xs).deepest
unfolding total_from
total_named r [] f h k = h
total_named r (a ∷ xs) f h k =
    total_named (join r (share a)) xs (join_full r (share a) f (share_full a)) (join_named r (share a) f (share_full a) h (share_named a k.0)) k.1

empty_named : Named (files empty) empty.deepest
unfolding empty
empty_named = tt

pub season_named : (xs : List Own) → NoWide empty xs → All Known xs → Named (files (season xs)) (season xs).deepest
unfolding season
season_named xs h k = rw (season_total empty xs h) (total_named empty xs empty_full empty_named k)
