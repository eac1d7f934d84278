-- What is kept of tokens is all that is reported of them.
use Rattle.std.proofs.Common.{ℕ, ◌≡◌, ◌+◌, ◌<◌, ◌++◌, Bool, true, false, List, [], ◌∷◌, Option, Some, None, length, map, take, drop, min, get_or, refl, sym, ap, ◌∙◌, arith}
use Rattle.std.specs.Prelude.{if◌then◌else◌}
use Rattle.std.specs.List.{flat_map}
use Rattle.std.specs.Option.{option_map}
use Rattle.std.proofs.lemmas.List.{take_more, append-nil}
use Rattle.std.proofs.lemmas.Grind.{common_steps, flat_map-append}
use Rattle.std.proofs.lemmas.Bool.Decides.{nat_tests}
use Rattle.qc_facts.specs.declared.faults.WidthFault.{WidthFault}
use Rattle.qc_facts.specs.declared.faults.WidthFault.TheVariants.{UnknownName, TwiceNamed}
use Rattle.qc_facts.specs.Faults.{reported, reported_of_two, reported_of_both, token_of, rank_of}
use Rattle.qc_resolve.specs.Scopes.{Names, Signature}
use Rattle.qc_resolve.specs.Expressions.{Expression, argument_faults}
use Rattle.qc_resolve.specs.Effects.{fits_target, target_faults, effects_faults, targets_at, targets_of, is_named}
use Rattle.qc_resolve.specs.KeptSignatures.{lesser, least, events_in, joined_events, summary, signature_like, at_most_one}
use Rattle.qc_names.specs.Law.Reported.{reported-append}

-- the lesser of three does not hang on how they are paired
pub lesser-assoc : (a b c : Option ℕ) → lesser (lesser a b) c ≡ lesser a (lesser b c)
lesser-assoc None b c = refl
lesser-assoc (Some x) None c = refl
lesser-assoc (Some x) (Some y) None = refl
lesser-assoc (Some x) (Some y) (Some z) = let e : min (min x y) z ≡ min x (min y z) = omega arith in ap Some e

pub lesser-none : (a : Option ℕ) → lesser a None ≡ a
lesser-none None = refl
lesser-none (Some x) = refl

-- the least of two lists, one after the other
pub least-append : (xs ys : List ℕ) → least (xs ++ ys) ≡ lesser (least xs) (least ys)
unfolding least
least-append [] ys = refl
least-append (x ∷ xs) ys = ap (lesser (Some x)) (least-append xs ys) ∙ sym (lesser-assoc (Some x) (least xs) (least ys))

-- a list of the least token alone has that least token
pub least-kept : (t : Option ℕ) → least (at_most_one t) ≡ t
unfolding least
least-kept None = refl
least-kept (Some x) = refl

-- the first token and the least of those after it give the least
later-least : (ys : List ℕ) → lesser (events_in ys).first (events_in ys).later ≡ least ys
unfolding events_in least
later-least [] = refl
later-least (y ∷ ys) = refl

pub events-append : (xs ys : List ℕ) → events_in (xs ++ ys) ≡ joined_events (events_in xs) (events_in ys)
unfolding events_in
events-append [] ys = refl
events-append (x ∷ xs) ys =
    ap (λ l. record { first = Some x; later = l }) (least-append xs ys ∙ ap (lesser (least xs)) (sym (later-least ys)))

-- the least of the tokens after the first
pub later-is : (xs : List ℕ) → (events_in xs).later ≡ least (drop 1 xs)
unfolding events_in least
later-is [] = refl
later-is (x ∷ xs) = refl

-- of faults of one sort that of the least token is reported
reported-unknown-two : (x : ℕ) (t : Option ℕ)
    → Some (reported_of_two (UnknownName x) (option_map UnknownName t)) ≡ option_map UnknownName (lesser (Some x) t)
reported-unknown-two x None = refl
reported-unknown-two x (Some y) = grind (arith, common_steps, nat_tests)

reported-twice-two : (x : ℕ) (t : Option ℕ)
    → Some (reported_of_two (TwiceNamed x) (option_map TwiceNamed t)) ≡ option_map TwiceNamed (lesser (Some x) t)
reported-twice-two x None = refl
reported-twice-two x (Some y) = grind (arith, common_steps, nat_tests)

-- of unknown names the least is reported, and of second names
pub reported-unknown : (xs : List ℕ) → reported (map UnknownName xs) ≡ option_map UnknownName (least xs)
unfolding least
reported-unknown [] = refl
reported-unknown (x ∷ xs) = ap (λ t. Some (reported_of_two (UnknownName x) t)) (reported-unknown xs) ∙ reported-unknown-two x (least xs)

pub reported-twice : (xs : List ℕ) → reported (map TwiceNamed xs) ≡ option_map TwiceNamed (least xs)
unfolding least
reported-twice [] = refl
reported-twice (x ∷ xs) = ap (λ t. Some (reported_of_two (TwiceNamed x) t)) (reported-twice xs) ∙ reported-twice-two x (least xs)

-- the least token is all that is reported of a parameter's targets
reported-kept : (b : Bool) (xs : List ℕ)
    → reported (if b then [] else map UnknownName (at_most_one (least xs))) ≡ reported (if b then [] else map UnknownName xs)
reported-kept true xs = refl
reported-kept false xs =
    reported-unknown (at_most_one (least xs)) ∙ ap (option_map UnknownName) (least-kept (least xs)) ∙ sym (reported-unknown xs)

reported-targets : (names : Names) (targets : List (List ℕ)) (args : List Expression)
    → reported (target_faults names (map at_most_one (map least targets)) args) ≡ reported (target_faults names targets args)
reported-targets names [] args = refl
reported-targets names (xs ∷ targets) [] = refl
reported-targets names (xs ∷ targets) (arg ∷ args) =
    let fits : Bool = fits_target names arg.bare in
    let here : List ℕ → List WidthFault = λ tokens. if fits then [] else map UnknownName tokens in
    let kept : List WidthFault = target_faults names (map at_most_one (map least targets)) args in
    reported-append token_of rank_of (here (at_most_one (least xs))) kept
    ∙ ap (λ t. reported_of_both t (reported kept)) (reported-kept fits xs)
    ∙ ap (reported_of_both (reported (here xs))) (reported-targets names targets args)
    ∙ sym (reported-append token_of rank_of (here xs) (target_faults names targets args))

-- and all that is kept of them in the signature of other effects
least-kept-if : (b : Bool) (xs : List ℕ)
    → least (if b then at_most_one (least xs) else []) ≡ least (if b then xs else [])
least-kept-if true xs = least-kept (least xs)
least-kept-if false xs = refl

least-targets : (name : List ℕ) (targets : List (List ℕ)) (args : List Expression)
    → least (targets_at name (map at_most_one (map least targets)) args) ≡ least (targets_at name targets args)
least-targets name [] args = refl
least-targets name (xs ∷ targets) [] = refl
least-targets name (xs ∷ targets) (arg ∷ args) =
    let same : Bool = is_named name arg.bare in
    let here : List ℕ → List ℕ = λ tokens. if same then tokens else [] in
    let kept : List ℕ = targets_at name (map at_most_one (map least targets)) args in
    least-append (here (at_most_one (least xs))) kept
    ∙ ap (λ t. lesser t (least kept)) (least-kept-if same xs)
    ∙ ap (lesser (least (here xs))) (least-targets name targets args)
    ∙ sym (least-append (here xs) (targets_at name targets args))

-- what is reported of a use of named effects, by what is kept of their signature
pub use-kept : (names : Names) (s : Option Signature) (token : ℕ) (args : List Expression)
    → reported (effects_faults names (option_map signature_like (option_map summary s)) token args)
    ≡ reported (effects_faults names s token args)
use-kept names None token args = refl
use-kept names (Some s) token args =
    reported-append token_of rank_of (argument_faults names s.params args) (target_faults names (map at_most_one (map least s.targets)) args)
    ∙ ap (reported_of_both (reported (argument_faults names s.params args))) (reported-targets names s.targets args)
    ∙ sym (reported-append token_of rank_of (argument_faults names s.params args) (target_faults names s.targets args))

-- the targets of a use of named effects, by what is kept of their signature
pub targets-kept : (name : List ℕ) (s : Option Signature) (args : List Expression)
    → least (targets_of name (option_map signature_like (option_map summary s)) args) ≡ least (targets_of name s args)
targets-kept name None args = refl
targets-kept name (Some s) args = least-targets name s.targets args

-- one more element of a list
pub flat_map_next : {X A : Type 0} (f : X → List A) (xs : List X) (i : ℕ) (x : X) → i < length xs → x ≡ get_or xs i x
    → flat_map f (take (i + 1) xs) ≡ flat_map f (take i xs) ++ f x
flat_map_next f xs i x within is =
    ap (flat_map f) (take_more xs i x within ∙ ap (λ y. take i xs ++ y ∷ []) (sym is))
    ∙ flat_map-append f (take i xs) (x ∷ []) ∙ ap (λ ys. flat_map f (take i xs) ++ ys) (append-nil (f x))

-- what is kept of no token, and of one
pub events-none : events_in [] ≡ record { first = None; later = None }
unfolding events_in
events-none = refl

pub least-none : least [] ≡ None
unfolding least
least-none = refl

pub events-one : (token : ℕ) → events_in (token ∷ []) ≡ record { first = Some token; later = None }
unfolding events_in least
events-one token = refl

pub ruleset kept_none = (events-none, events-one, least-none)
