-- What is found once tasks are done.
use Rattle.std.proofs.Common.{◌≡◌, ◌+◌, ◌-◌, ℕ, zero, suc, List, [], ◌∷◌, ◌++◌, length, take, drop, slice_get, Option, None, Some, Result, Ok, Err, IfOk, OnOk, refl, sym, ◌∙◌, ap, subst, arith, length-append}
use Rattle.std.specs.List.{AllZip}
use Rattle.std.proofs.lemmas.Option.{slice_get_within}
use Rattle.qc_lists.specs.Law.Lists.{slice_get-append_left}
use Rattle.qc_bodies.specs.declared.expand.Scope.{Scope}
use Rattle.qc_bodies.specs.declared.expand.Task.{Task}
use Rattle.qc_bodies.specs.declared.expand.Task.TheVariants as task
use Rattle.qc_bodies.specs.declared.nodes.Node.{Node}
use Rattle.qc_bodies.specs.Trees.{Core, one}
use Rattle.qc_bodies.specs.Meanings.{Meaning}
use Rattle.qc_bodies.specs.Nodes.{Keeps}
use Rattle.qc_bodies.specs.Law.Related.{RelOption, related_get, related_length}
use Rattle.qc_bodies.specs.Inner.Expanding.{After, AfterAll, In, IsScope, Setting, Taking}
use Rattle.qc_bodies.proofs.Placed.{keep_all}

-- two facts that hold where a call succeeds
pub on_both : {T E : Type 0} (P Q R : Type 0) (r : Result T E) → OnOk r P → OnOk r Q → (P → Q → R) → OnOk r R
on_both P Q R (Ok x) p q f = f p q
on_both P Q R (Err e) p q f = tt

pub both_ok : {T E : Type 0} (P R : T → Type 0) (Q : Type 0) (r : Result T E) → IfOk r P → OnOk r Q → ((x : T) → P x → Q → R x) → IfOk r R
both_ok P R Q (Ok x) p q f = f x p q
both_ok P R Q (Err e) p q f = tt

-- the last task is done first
pub popped : (ms : List (Meaning (Core one))) (settings : List Setting) (ts : List Task) (t : Task) (Q : List (Core one) → Type 0) (es : List (Core one))
    → AfterAll ms settings (ts ++ t ∷ []) Q es → After ms settings t (AfterAll ms settings ts Q) es
popped ms settings [] t Q es h = h
popped ms settings (s ∷ ts) t Q es h = popped ms settings ts t (After ms settings s Q) es h

pub pushed : (ms : List (Meaning (Core one))) (settings : List Setting) (ts : List Task) (t : Task) (Q : List (Core one) → Type 0) (es : List (Core one))
    → After ms settings t (AfterAll ms settings ts Q) es → AfterAll ms settings (ts ++ t ∷ []) Q es
pushed ms settings [] t Q es h = h
pushed ms settings (s ∷ ts) t Q es h = pushed ms settings ts t (After ms settings s Q) es h

pub pushed_both : (ms : List (Meaning (Core one))) (settings : List Setting) (ts : List Task) (t u : Task) (Q : List (Core one) → Type 0)
    → (es : List (Core one)) → After ms settings u (After ms settings t (AfterAll ms settings ts Q)) es
    → AfterAll ms settings ((ts ++ t ∷ []) ++ u ∷ []) Q es
pushed_both ms settings [] t u Q es h = h
pushed_both ms settings (s ∷ ts) t u Q es h = pushed_both ms settings ts t u (After ms settings s Q) es h

-- with more settings
in_more : (settings more : List Setting) (number : ℕ) (P Q : Setting → Type 0) → ((s : Setting) → P s → Q s)
    → In settings number P → In (settings ++ more) number Q
in_more settings more number P Q f h = record {
  setting = h.setting;
  is = slice_get-append_left settings more number (slice_get_within settings number h.setting h.is) ∙ h.is;
  holds = f h.setting h.holds;
}

taking_more : (count : ℕ) (make : List (Core one) → Core one) (P Q : List (Core one) → Type 0) → ((es : List (Core one)) → P es → Q es)
    → (es : List (Core one)) → Taking count make P es → Taking count make Q es
taking_more count make P Q f es h = record { front = h.front; last = h.last; are = h.are; many = h.many; holds = f (h.front ++ make h.last ∷ []) h.holds }

after_more : (ms : List (Meaning (Core one))) (settings more : List Setting) (t : Task) (P Q : List (Core one) → Type 0)
    → ((es : List (Core one)) → P es → Q es) → (es : List (Core one)) → After ms settings t P es → After ms (settings ++ more) t Q es
after_more ms settings more (task.One scope body) P Q f es h = in_more settings more scope _ _ (λ s. f _) h
after_more ms settings more (task.All scope bodies next) P Q f es h = in_more settings more scope _ _ (λ s. f _) h
after_more ms settings more (task.Wrap token wrap width) P Q f es h = taking_more _ _ P Q f es h
after_more ms settings more (task.Operate token op count) P Q f es h = taking_more _ _ P Q f es h
after_more ms settings more (task.Enter number function chosen count) P Q f es h = taking_more _ _ P Q f es h

pub all_more : (ms : List (Meaning (Core one))) (settings more : List Setting) (ts : List Task) (P Q : List (Core one) → Type 0)
    → ((es : List (Core one)) → P es → Q es) → (es : List (Core one)) → AfterAll ms settings ts P es → AfterAll ms (settings ++ more) ts Q es
all_more ms settings more [] P Q f es h = f es h
all_more ms settings more (t ∷ ts) P Q f es h =
    all_more ms settings more ts (After ms settings t P) (After ms (settings ++ more) t Q) (after_more ms settings more t P Q f) es h

-- scopes
pub scopes_keep : (old new : List Node) → Keeps old new → (scopes : List Scope) (settings : List Setting)
    → AllZip (IsScope old) scopes settings → AllZip (IsScope new) scopes settings
scopes_keep old new k [] [] h = tt
scopes_keep old new k [] (s ∷ ss) h = absurd h
scopes_keep old new k (c ∷ cs) [] h = absurd h
scopes_keep old new k (c ∷ cs) (s ∷ ss) h = (
  record { level = h.0.level; ranks = h.0.ranks; places = keep_all old new k c.places s.stand h.0.places },
  scopes_keep old new k cs ss h.1,
)

scope_of : (nodes : List Node) (c : Option Scope) (s : Option Setting) (t : Setting) → RelOption (IsScope nodes) c s → s ≡ Some t
    → (x : Scope) × (c ≡ Some x) × IsScope nodes x t
scope_of nodes None None t r e = absurd (cc)
scope_of nodes None (Some s) t r e = absurd r
scope_of nodes (Some c) None t r e = absurd r
scope_of nodes (Some c) (Some s) t r e = let same : s ≡ t = cc in (c, refl, subst (IsScope nodes c) same r)

pub scope_there : (nodes : List Node) (scopes : List Scope) (settings : List Setting) (number : ℕ) (s : Setting)
    → AllZip (IsScope nodes) scopes settings → slice_get settings number ≡ Some s
    → (x : Scope) × (slice_get scopes number ≡ Some x) × IsScope nodes x s
scope_there nodes scopes settings number s fits e =
    scope_of nodes (slice_get scopes number) (slice_get settings number) s (related_get (IsScope nodes) scopes settings number fits) e

-- the end of a list
split_at : {A B : Type 0} (R : A → B → Type 0) (k : ℕ) (xs : List A) (us ps : List B) → k ≡ length us → AllZip R xs (us ++ ps)
    → AllZip R (take k xs) us × AllZip R (drop k xs) ps
split_at R zero xs [] ps e h = (tt, h)
split_at R (suc k) xs [] ps e h = absurd (omega arith)
split_at R zero xs (u ∷ us) ps e h = absurd (omega arith)
split_at R (suc k) [] (u ∷ us) ps e h = absurd h
split_at R (suc k) (x ∷ xs) (u ∷ us) ps e h =
    let rest = split_at R k xs us ps (omega arith) h.1 in
    ((h.0, rest.0), rest.1)

pub split_last : {A B : Type 0} (R : A → B → Type 0) (xs : List A) (us ps : List B) (count : ℕ) → length ps ≡ count → AllZip R xs (us ++ ps)
    → AllZip R (take (length xs - count) xs) us × AllZip R (drop (length xs - count) xs) ps
split_last R xs us ps count e h =
    let all : length xs ≡ length us + length ps = related_length R xs (us ++ ps) h ∙ length-append us ps in
    split_at R (length xs - count) xs us ps (omega arith) h

pub last_is : {A B : Type 0} (R : A → B → Type 0) (xs : List A) (x : A) (e : B) → AllZip R (xs ++ x ∷ []) (e ∷ []) → R x e
last_is R [] x e h = h.0
last_is R (y ∷ []) x e h = absurd h.1
last_is R (y ∷ (z ∷ zs)) x e h = absurd h.1

pub drop_get : {A : Type 0} (xs : List A) (k : ℕ) (x : A) → slice_get xs k ≡ Some x → drop k xs ≡ x ∷ drop (k + 1) xs
drop_get [] k x e = absurd (cc)
drop_get (y ∷ ys) zero x e = let same : y ≡ x = cc in ap (λ z. z ∷ ys) same
drop_get (y ∷ ys) (suc k) x e =
    let more : suc k + 1 ≡ suc (k + 1) = omega arith in
    drop_get ys k x e ∙ ap (λ j. x ∷ drop j (y ∷ ys)) (sym more)

pub drop_none : {A : Type 0} (xs : List A) (k : ℕ) → slice_get xs k ≡ None → drop k xs ≡ []
drop_none [] zero e = refl
drop_none [] (suc k) e = refl
drop_none (y ∷ ys) zero e = absurd (cc)
drop_none (y ∷ ys) (suc k) e = drop_none ys k e
