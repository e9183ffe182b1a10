-- Laws of the plain list over whole runs.
use Rattle.std.proofs.Common.{◌≡◌, ℕ, zero, suc, Bool, true, false, cond, ◌==◌, List, [], ◌∷◌, ◌++◌, length, Some, None, fold, Option, sym, refl, ap, ◌∙◌, subst, subst₂}
use mathlib.Core.List.{Perm}
use lib.Dec.{eqb-zero-suc, eqb-suc-zero, eqb-suc-suc}
use Rattle.std.specs.List.{slice_get}
use Rattle.std.proofs.lemmas.Bool.{cond_both}
use Rattle.std.proofs.lemmas.List.Sums.{fold-append}
use Rattle.fault.specs.declared.Fault.{Fault}
use Rattle.predicates.specs.Showing.{Shown}
use Rattle.lists.proofs.Bags.{step_bag}
use Rattle.calls.specs.Calls.{bin_of, refusal, made}
use Rattle.calls.specs.Answers.{Heard, idle, struck}
use Rattle.calls.specs.PlainList.{Plain, Step, Flow, Turn, test_turn, retain_turn, unmade, nothing, modified, moved_at, names, turned, step, run, answers, all, all_binned_in}
use Rattle.calls.specs.declared.call.Edit.TheVariants.{Load, Push, Pop, Swap, SwapRemove, MakeContiguous}
use Rattle.calls.specs.declared.call.Test.TheVariants.{PopIf, Change}
use Rattle.calls.specs.declared.call.Release.TheVariants.{Truncate, Clear}
use Rattle.calls.specs.declared.call.Read.TheVariants.{Get, AtEnd, Len, Capacity, IsEmpty, IsFull, Slices, Walk}
use Rattle.calls.specs.declared.call.Call.{Call}
use Rattle.calls.specs.declared.call.Call.TheVariants.{Edit as Edits, Test as Tests, Release as Releases, Retain, Read as Reads, IntoIter, Close}
use Rattle.calls.specs.declared.call.Request.{Request}
use Rattle.calls.proofs.Predicates.{either_way}
use Rattle.calls.proofs.Balance.{balanced, unmoved}

module _ {T P : Type 0} (rule : P → T → Shown P T) (capacity bin_count : ℕ) where
  -- what a step brings in is what it takes out
  abbrev StepBalanced : Plain T P → Step T P → Type 0
  StepBalanced s r = Perm (r.flow.taken ++ (r.flow.left ++ s.list)) (r.after.list ++ r.flow.handed ++ r.flow.binned ++ r.flow.found)

  settled : (s : Plain T P) (call : Call T) (lent : ℕ) (o : Option Fault) → (o ≡ None → refusal call capacity lent (length s.list) ≡ None) → StepBalanced s (turned rule capacity bin_count s call o)
  settled s call lent (Some fault) h = unmoved s.list
  settled s call lent None h = balanced rule capacity lent call s.predicates s.list (h refl)

  step_balanced : (s : Plain T P) (q : Request T) → StepBalanced s (step rule capacity bin_count s q)
  step_balanced s q =
      cond_both (made s.phase bin_count (length s.predicates) q.call) _ _ (StepBalanced s)
      (λ _. settled s q.call q.lent (refusal q.call capacity q.lent (length s.list)) (λ e. e))
      (λ _. unmoved s.list)

  pub run_balanced : (s : Plain T P) (qs : List (Request T)) →
      Perm (all rule capacity bin_count (λ f. f.taken) s qs ++ (all rule capacity bin_count (λ f. f.left) s qs ++ s.list))
      ((run rule capacity bin_count s qs).list ++ all rule capacity bin_count (λ f. f.handed) s qs ++ all rule capacity bin_count (λ f. f.binned) s qs ++ all rule capacity bin_count (λ f. f.found) s qs)
  run_balanced s [] = unmoved s.list
  run_balanced s (q ∷ qs) =
      let r = step rule capacity bin_count s q in
      step_bag r.flow.taken r.flow.left s.list r.after.list r.flow.handed r.flow.binned r.flow.found _ _ _ _ _ _ (step_balanced s q) (run_balanced r.after qs)

  -- an accepted call with an idle answer leaves all as it was
  abbrev Rests : Plain T P → Step T P → Type 0
  Rests s r = idle r.answer ≡ true → (r.after ≡ s) × (r.flow ≡ nothing)

  abbrev Busy : Turn T → Type 0
  Busy t = idle t.answer ≡ true → ⊥

  accepted_rests : (s : Plain T P) (call : Call T) → Rests s (turned rule capacity bin_count s call None)
  accepted_rests s (Edits (Load items)) h = cc
  accepted_rests s (Edits (Push end item)) h = cc
  accepted_rests s (Edits (Pop end)) h = cc
  accepted_rests s (Edits (Swap i j)) h = cc
  accepted_rests s (Edits (SwapRemove end index)) h = cc
  accepted_rests s (Edits MakeContiguous) h = (refl, refl)
  accepted_rests s (Tests (PopIf end) predicate) h = absurd (either_way Busy (slice_get s.predicates predicate) (λ t. test_turn rule (PopIf end) t s.list) (unmade s.list) (λ e. cc) (λ t e. cc) h)
  accepted_rests s (Tests (Change index) predicate) h = absurd (either_way Busy (slice_get s.predicates predicate) (λ t. test_turn rule (Change index) t s.list) (unmade s.list) (λ e. cc) (λ t e. cc) h)
  accepted_rests s (Releases (Truncate len) bin) h = cc
  accepted_rests s (Releases Clear bin) h = cc
  accepted_rests s (Retain predicate bin) h = absurd (either_way Busy (slice_get s.predicates predicate) (λ t. retain_turn rule t s.list) (unmade s.list) (λ e. cc) (λ t e. cc) h)
  accepted_rests s (Reads (Get index)) h = cc
  accepted_rests s (Reads (AtEnd end)) h = cc
  accepted_rests s (Reads Len) h = cc
  accepted_rests s (Reads Capacity) h = cc
  accepted_rests s (Reads IsEmpty) h = cc
  accepted_rests s (Reads IsFull) h = cc
  accepted_rests s (Reads Slices) h = cc
  accepted_rests s (Reads (Walk ends)) h = cc
  accepted_rests s IntoIter h = cc
  accepted_rests s (Close bin) h = cc

  settled_rests : (s : Plain T P) (call : Call T) (o : Option Fault) → Rests s (turned rule capacity bin_count s call o)
  settled_rests s call (Some fault) h = (refl, refl)
  settled_rests s call None h = accepted_rests s call h

  idle_rests : (s : Plain T P) (q : Request T) → Rests s (step rule capacity bin_count s q)
  idle_rests s q =
      cond_both (made s.phase bin_count (length s.predicates) q.call) _ _ (Rests s)
      (λ _. settled_rests s q.call (refusal q.call capacity q.lent (length s.list)))
      (λ _ h. cc)

  -- the requests that are left, once the idle ones are struck out
  abbrev pub effective_of : Plain T P → List (Request T) → List (Request T)
  effective_of s qs = struck (answers rule capacity bin_count s qs) qs

  pub struck_run : (s : Plain T P) (qs : List (Request T)) → run rule capacity bin_count s (effective_of s qs) ≡ run rule capacity bin_count s qs
  struck_run s [] = refl
  struck_run s (q ∷ qs) =
      let r = step rule capacity bin_count s q in
      let later = effective_of r.after qs in
      cond_both (idle r.answer) later (q ∷ later) (λ l. run rule capacity bin_count s l ≡ run rule capacity bin_count r.after qs)
      (λ e. subst (λ z. run rule capacity bin_count z later ≡ run rule capacity bin_count r.after qs) (idle_rests s q e).0 (struck_run r.after qs))
      (λ _. struck_run r.after qs)

  pub struck_answers : (s : Plain T P) (qs : List (Request T)) → answers rule capacity bin_count s (effective_of s qs) ≡ struck (answers rule capacity bin_count s qs) (answers rule capacity bin_count s qs)
  struck_answers s [] = refl
  struck_answers s (q ∷ qs) = go (struck_answers r.after qs) (idle r.answer) refl
    where
      r : Step T P
      r = step rule capacity bin_count s q

      said_later : List (Heard T)
      said_later = answers rule capacity bin_count r.after qs

      later : List (Request T)
      later = effective_of r.after qs

      go : answers rule capacity bin_count r.after later ≡ struck said_later said_later → (b : Bool) → idle r.answer ≡ b → answers rule capacity bin_count s (cond b later (q ∷ later)) ≡ cond b (struck said_later said_later) (r.answer ∷ struck said_later said_later)
      go ih true e = subst (λ z. answers rule capacity bin_count z later ≡ struck said_later said_later) (idle_rests s q e).0 ih
      go ih false e = ap (λ l. r.answer ∷ l) ih

modified_same : {A : Type 0} (k : ℕ) (xs : List A) → modified k (λ s. s) xs ≡ xs
modified_same k [] = refl
modified_same zero (x ∷ xs) = refl
modified_same (suc k) (x ∷ xs) = ap (λ l. x ∷ l) (modified_same k xs)

pub unmoved_at : {A : Type 0} (o : Option ℕ) (xs : List A) → moved_at o (λ s. s) xs ≡ xs
unmoved_at None xs = refl
unmoved_at (Some k) xs = modified_same k xs

pub length_modified : {A : Type 0} (k : ℕ) (f : A → A) (xs : List A) → length (modified k f xs) ≡ length xs
length_modified k f [] = refl
length_modified zero f (x ∷ xs) = refl
length_modified (suc k) f (x ∷ xs) = ap suc (length_modified k f xs)

pub length_moved_at : {A : Type 0} (o : Option ℕ) (f : A → A) (xs : List A) → length (moved_at o f xs) ≡ length xs
length_moved_at None f xs = refl
length_moved_at (Some k) f xs = length_modified k f xs

nth_modified : {A : Type 0} (k i : ℕ) (f : A → A) (xs : List A) (x : A) → slice_get xs i ≡ Some x → slice_get (modified k f xs) i ≡ Some (cond (i == k) (f x) x)
nth_modified k i f [] x e = cc
nth_modified zero zero f (y ∷ xs) x e = cc
nth_modified zero (suc i) f (y ∷ xs) x e = e ∙ ap (λ v. Some (cond v (f x) x)) (sym (eqb-suc-zero i))
nth_modified (suc k) zero f (y ∷ xs) x e = e ∙ ap (λ v. Some (cond v (f x) x)) (sym (eqb-zero-suc k))
nth_modified (suc k) (suc i) f (y ∷ xs) x e = nth_modified k i f xs x e ∙ ap (λ v. Some (cond v (f x) x)) (sym (eqb-suc-suc i k))

module _ {S T : Type 0} (takes : S → T → S) where
  -- the bins after one of them, or none, took some items
  abbrev pub fed : Option ℕ → List T → List S → List S
  fed o items bs = moved_at o (λ s. fold takes s items) bs

  nth_fed : (o : Option ℕ) (i : ℕ) (items : List T) (bs : List S) (s : S) → slice_get bs i ≡ Some s → slice_get (fed o items bs) i ≡ Some (fold takes s (cond (names i o) items []))
  nth_fed None i items bs s e = e
  nth_fed (Some b) i items bs s e =
      nth_modified b i (λ s. fold takes s items) bs s e
      ∙ elim (i == b) as (λ v. Some (cond v (fold takes s items) s) ≡ Some (fold takes s (cond v items []))) [ true ↦ refl | false ↦ refl ]

  -- the bins beside the plain list
  module _ {P : Type 0} (rule : P → T → Shown P T) (capacity bin_count : ℕ) where
    abbrev pub bins_run : List S → Plain T P → List (Request T) → List S
    bins_run bs s [] = bs
    bins_run bs s (q ∷ qs) = bins_run (fed (bin_of q.call) (step rule capacity bin_count s q).flow.binned bs) (step rule capacity bin_count s q).after qs

    pub struck_bins : (bs : List S) (s : Plain T P) (qs : List (Request T)) → bins_run bs s (effective_of rule capacity bin_count s qs) ≡ bins_run bs s qs
    struck_bins bs s [] = refl
    struck_bins bs s (q ∷ qs) =
        let r = step rule capacity bin_count s q in
        let fed_bins = fed (bin_of q.call) r.flow.binned bs in
        let later = effective_of rule capacity bin_count r.after qs in
        cond_both (idle r.answer) later (q ∷ later) (λ l. bins_run bs s l ≡ bins_run fed_bins r.after qs)
        (λ e. subst₂ (λ y z. bins_run y z later ≡ bins_run fed_bins r.after qs)
        (ap (λ (f : Flow T). fed (bin_of q.call) f.binned bs) (idle_rests rule capacity bin_count s q e).1 ∙ unmoved_at (bin_of q.call) bs)
        (idle_rests rule capacity bin_count s q e).0
        (struck_bins fed_bins r.after qs))
        (λ _. struck_bins fed_bins r.after qs)

    -- each bin stands where its rule takes it, over the items sent to it
    pub bins_fed : (bs : List S) (s : Plain T P) (qs : List (Request T)) (b : ℕ) (x : S) → slice_get bs b ≡ Some x → slice_get (bins_run bs s qs) b ≡ Some (fold takes x (all_binned_in rule capacity bin_count b s qs))
    bins_fed bs s [] b x e = e
    bins_fed bs s (q ∷ qs) b x e =
        let r = step rule capacity bin_count s q in
        let sent = cond (names b (bin_of q.call)) r.flow.binned [] in
        bins_fed (fed (bin_of q.call) r.flow.binned bs) r.after qs b (fold takes x sent) (nth_fed (bin_of q.call) b r.flow.binned bs x e)
        ∙ ap Some (sym (fold-append takes x sent (all_binned_in rule capacity bin_count b r.after qs)))
