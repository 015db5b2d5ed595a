-- Steps of the loops, for records of any width and any relation of nearness: a merge in parts on a lent list. Assumes nothing.
use Rattle.std.specs.Prelude.{◌≡◌, refl, Bool, true, false, is_some, List, [], ◌∷◌, ◌++◌, ℕ, ◌+◌, ◌*◌, ◌≤◌, length, drop, Float}
use Rattle.std.proofs.Math.Path.{sym}
use Rattle.std.proofs.Common.{ap, ◌∙◌, arith, length-append}
use Rattle.std.proofs.lemmas.List.Edits.{sets}
use Rattle.seeds.specs.Layout.{read_from, written_by, Leaves}
use Rattle.seeds.specs.LayoutLaws.{Layout, read_length, read_written, written_own, written_over, set_record_is_written_behind}
use Rattle.seeds.specs.Merge.{newest_near, push, merged_into}
use Rattle.seeds.proofs.MergeLaws.{push_by_newest_near, merged_append, merged_into_not_shorter, merged_into_length_le_sum}

-- ---- one record pushed, and the merge
module _ {A : Type 0} {numbers : A → List Float} {first : List Float → A} {w : ℕ} (y : Layout numbers first w) (near : A → A → Bool) where
  pub push_drops : (l : List Float) (n : ℕ) (s : A) → w * n ≤ length l → is_some (newest_near near 0 (read_from first w n l) s) ≡ true
      → Leaves numbers w (push near (read_from first w n l) s) l l n
  push_drops l n s h e = rw (← push_by_newest_near near (read_from first w n l) s, e) (record { count_is = sym (read_length first w n l); list_is = sym (written_own y n l h) })

  pub push_stores : (l m : List Float) (n : ℕ) (s : A) → w * n + w ≤ length l → is_some (newest_near near 0 (read_from first w n l) s) ≡ false → m ≡ sets l (w * n) (numbers s)
      → Leaves numbers w (push near (read_from first w n l) s) l m (n + 1)
  push_stores l m n s h e q =
      rw (← push_by_newest_near near (read_from first w n l) s, e) (record {
        count_is = omega (arith, length-append (read_from first w n l) (s ∷ []), read_length first w n l);
        list_is = q ∙ set_record_is_written_behind y n l s h;
      })

-- the records that an operation left are read back
pub left_records_read_back : {A : Type 0} {numbers : A → List Float} {first : List Float → A} {w : ℕ} (y : Layout numbers first w)
    (xs : List A) (l m : List Float) (n : ℕ) → Leaves numbers w xs l m n → read_from first w n m ≡ xs
left_records_read_back {first} {w} y xs l m n a =
    ap (λ (j : ℕ). read_from first w j m) a.count_is
    ∙ ap (read_from first w (length xs)) a.list_is
    ∙ read_written y xs (drop (w * length xs) l)

-- A merge under way: from the records ks at the front of l, those of xs have been offered; m is the list now, and it has n records, at most `most`.
pub record MergeUnderWay {A : Type 0} (numbers : A → List Float) (w : ℕ) (near : A → A → Bool) (ks xs : List A) (l m : List Float) (n most : ℕ) : Type 0 where
  pub leaves : Leaves numbers w (merged_into near ks xs) l m n
  pub few : n ≤ most
  pub same : length m ≡ length l

module _ {A : Type 0} {numbers : A → List Float} {first : List Float → A} {w : ℕ} (y : Layout numbers first w) (near : A → A → Bool) where
  pub merge_under_way_at_start : (l : List Float) (n : ℕ) → w * n ≤ length l → MergeUnderWay numbers w near (read_from first w n l) [] l l n n
  unfolding merged_into
  merge_under_way_at_start l n h = record {
    leaves = record { count_is = sym (read_length first w n l); list_is = sym (written_own y n l h) };
    few = omega arith;
    same = refl;
  }

  -- those of zs, offered to the list as it is now, come behind xs
  pub merge_under_way_after_more : (ks xs zs ys : List A) (l m m' : List Float) (n n' most most' : ℕ)
      → MergeUnderWay numbers w near ks xs l m n most
      → Leaves numbers w (merged_into near (read_from first w n m) zs) m m' n'
      → length m' ≡ length m → most + length zs ≤ most' → ys ≡ xs ++ zs
      → MergeUnderWay numbers w near ks ys l m' n' most'
  merge_under_way_after_more ks xs zs ys l m m' n n' most most' a b same room e =
      let k = merged_into near ks xs in
      let k' = merged_into near k zs in
      let g : merged_into near (read_from first w n m) zs ≡ k' = ap (λ (q : List A). merged_into near q zs) (left_records_read_back y k l m n a.leaves) in
      let h : merged_into near ks ys ≡ k' = ap (merged_into near ks) e ∙ merged_append near ks xs zs in
      let i : length k ≡ n = sym a.leaves.count_is in
      let f : length k' ≤ length k + length zs = merged_into_length_le_sum near k zs in
      let o : n' ≡ length k' = b.count_is ∙ ap length g in
      record {
        leaves = rw h (record {
          count_is = o;
          list_is =
              b.list_is
              ∙ ap (λ (q : List A). written_by numbers w q m) g
              ∙ ap (written_by numbers w k') a.leaves.list_is
              ∙ written_over y k k' l (merged_into_not_shorter near k zs);
        });
        few = let u = a.few in omega arith;
        same = same ∙ a.same;
      }
