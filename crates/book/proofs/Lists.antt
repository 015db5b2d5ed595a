-- The lent list beside the book's list: the book's seeds stand in front of it, and a part of it is lent and given back.
-- Assumes nothing.
use Rattle.std.proofs.Common.{ℕ, zero, suc, ◌+◌, ◌-◌, ◌*◌, ◌≤◌, ◌<◌, arith, ◌≡◌, refl, sym, ap, ◌∙◌, Bool, true, false, List, [], ◌∷◌, ◌++◌, append_assoc, ltb-true, ltb-false, lt-ltb, le-ltb, ltb, length, get_or, take, drop, length-append, length-take, length-drop, get_or-append-add, drop-cons, Float}
use Rattle.std.specs.Float.{nan}
use lib.Seq.{drop-append-add, take-append-add, drop-length}
use Rattle.seeds.specs.declared.CandidateSeed.{CandidateSeed}
use Rattle.seeds.specs.Layout.{laid, six, flat, seed_at, written}
use Rattle.seeds.specs.LayoutLaws.{flat_length}
use Rattle.score.specs.Floor.{seeds_from, seeds_between}
use Rattle.book.specs.Book.{no_seed}

-- ---- the seeds in the list
get_or_past_first_seed : (s : CandidateSeed) (ys : List Float) (k j : ℕ) → get_or (six s ++ ys) (6 * suc k + j) nan ≡ get_or ys (6 * k + j) nan
get_or_past_first_seed s ys k j = let e : 6 * suc k + j ≡ 6 + (6 * k + j) = omega arith in rw e (get_or-append-add (six s) ys (6 * k + j) nan)

get_or_past_first_seed_start : (s : CandidateSeed) (ys : List Float) (k : ℕ) → get_or (six s ++ ys) (6 * suc k) nan ≡ get_or ys (6 * k) nan
get_or_past_first_seed_start s ys k = let e : 6 * suc k ≡ 6 + 6 * k = omega arith in rw e (get_or-append-add (six s) ys (6 * k) nan)

pub seed_at_of_flat : (ss : List CandidateSeed) (t : List Float) (k : ℕ) → k < length ss → seed_at (flat ss ++ t) k ≡ get_or ss k no_seed
unfolding laid
seed_at_of_flat [] t k h = absurd (omega arith)
seed_at_of_flat (s ∷ ss) t zero h = refl
seed_at_of_flat (s ∷ ss) t (suc k) h = simp (get_or_past_first_seed s (flat ss ++ t) k, get_or_past_first_seed_start s (flat ss ++ t) k) (seed_at_of_flat ss t k (omega arith))

pub six_of_flat : (ss : List CandidateSeed) (t : List Float) (k : ℕ) → k < length ss → take 6 (drop (6 * k) (flat ss ++ t)) ≡ six (get_or ss k no_seed)
unfolding laid
six_of_flat [] t k h = absurd (omega arith)
six_of_flat (s ∷ ss) t zero h = refl
six_of_flat (s ∷ ss) t (suc k) h =
    let e : 6 * suc k ≡ 6 + 6 * k = omega arith in
    rw (e, drop-append-add (six s) (flat ss ++ t) (6 * k)) (six_of_flat ss t k (omega arith))

-- ---- the seeds ss stand in front of l, which has at least `demand` numbers
pub record Front (demand : ℕ) (ss : List CandidateSeed) (l : List Float) : Type 0 where
  pub tail : List Float
  pub list_is : l ≡ flat ss ++ tail
  pub long : demand ≤ length l
  pub fits : 6 * length ss ≤ demand

take_past_first_list : (xs ys : List Float) (n : ℕ) → length xs ≤ n → take n (xs ++ ys) ≡ xs ++ take (n - length xs) ys
take_past_first_list xs ys n h =
    let e : length xs + (n - length xs) ≡ n = omega arith in
    ap (λ (m : ℕ). take m (xs ++ ys)) (sym e) ∙ take-append-add xs ys (n - length xs)

pub front_of_lent_part : (d : ℕ) (ss : List CandidateSeed) (l : List Float) (n : ℕ) → Front d ss l → d ≤ n → Front d ss (take n l)
front_of_lent_part d ss l n f h = record {
  tail = take (n - length (flat ss)) f.tail;
  list_is = rw f.list_is (take_past_first_list (flat ss) f.tail n (let q = flat_length ss in let r = f.fits in omega arith));
  long = rw length-take (let p = f.long in omega arith);
  fits = f.fits;
}

pub front_of_longer_list : (d : ℕ) (ss : List CandidateSeed) (k m : List Float) → Front d ss k → Front d ss (k ++ m)
front_of_longer_list d ss k m f = record {
  tail = f.tail ++ m;
  list_is = rw f.list_is (append_assoc (flat ss) f.tail m);
  long = rw length-append (let p = f.long in omega arith);
  fits = f.fits;
}

-- the seeds from place k on, read from the lent list
seeds_from_of_flat : (ss : List CandidateSeed) (t : List Float) (k n : ℕ) → k + n ≡ length ss → seeds_from (flat ss ++ t) k n ≡ drop k ss
unfolding seeds_from
seeds_from_of_flat ss t k zero h = let e : k ≡ length ss = omega arith in rw e (sym (drop-length ss))
seeds_from_of_flat ss t k (suc n) h =
    let l : k < length ss = omega arith in
    rw (seed_at_of_flat ss t k l, seeds_from_of_flat ss t (suc k) n (omega arith)) (sym (drop-cons ss k no_seed l))

pub seeds_between_of_front : {d : ℕ} (ss : List CandidateSeed) (l : List Float) (k : ℕ) → Front d ss l → k ≤ length ss → seeds_between l k (length ss) ≡ drop k ss
seeds_between_of_front ss l k f h = rw f.list_is (seeds_from_of_flat ss f.tail k (length ss - k) (omega arith))

-- writing a list puts it in front
pub front_of_written : (d : ℕ) (ts : List CandidateSeed) (l : List Float) → d ≤ length l → 6 * length ts ≤ d → Front d ts (written ts l)
front_of_written d ts l h k =
    let q = flat_length ts in
    record {
      tail = drop (6 * length ts) l;
      list_is = refl;
      long = simp (length-append, length-drop) (omega arith);
      fits = k;
    }

pub front_of_no_seeds : (d : ℕ) (ss : List CandidateSeed) (l : List Float) → Front d ss l → Front d [] l
unfolding laid
front_of_no_seeds d ss l f = record { tail = l; list_is = refl; long = f.long; fits = omega arith }

-- Of a long enough list, a front of n numbers is too short exactly where n is.
pub lent_part_too_short : (d : ℕ) (l : List Float) (n : ℕ) → d ≤ length l → ltb (length (take n l)) d ≡ ltb n d
lent_part_too_short d l n h = go (ltb n d) refl
  where
    go : (x : Bool) → ltb n d ≡ x → ltb (length (take n l)) d ≡ x
    go true e = lt-ltb (length (take n l)) d (rw length-take (let p = ltb-true n d e in omega arith))
    go false e = le-ltb (length (take n l)) d (rw length-take (let p = ltb-false n d e in omega arith))
