-- The functions before an item are the first ones of all.
use Rattle.std.proofs.Common.{ℕ, ◌≡◌, ◌+◌, ◌<◌, ◌≤◌, ◌++◌, List, [], ◌∷◌, length, map, take, drop, get_or, refl, sym, ap, ◌∙◌, arith}
use Rattle.std.proofs.lemmas.List.{take-append-drop, take-take, take_at, take_all, take_more, take-map, map-append, length-append, length-map, length-take-le}
use Rattle.std.specs.List.{flat_map}
use Rattle.qc_lrtl.specs.declared.syntax.Item.{Item}
use Rattle.qc_lrtl.specs.declared.syntax.Item.TheVariants as fact
use Rattle.qc_resolve.specs.declared.signatures.Signature as kept
use Rattle.qc_facts.specs.Facts.{Facts}
use Rattle.qc_resolve.specs.Scopes.{Meaning, Signature}
use Rattle.qc_resolve.specs.KeptSignatures.{summary}
use Rattle.qc_resolve.specs.Declarations.{function_name, signature_of_item, signatures_after, signatures_in, signatures_of, meaning_of_item, meanings_after, meanings_in}

-- the functions of items, and of more after them
signatures-append : (facts : Facts) (earlier : List Signature) (xs ys : List Item)
    → signatures_after facts earlier (xs ++ ys) ≡ signatures_after facts (signatures_after facts earlier xs) ys
signatures-append facts earlier [] ys = refl
signatures-append facts earlier (x ∷ xs) ys =
    signatures-append facts (earlier ++ signature_of_item facts earlier x) xs ys

-- earlier functions stand first
signatures-front : (facts : Facts) (earlier : List Signature) (items : List Item)
    → take (length earlier) (signatures_after facts earlier items) ≡ earlier
signatures-front facts earlier [] = take_all (length earlier) earlier (omega arith)
signatures-front facts earlier (item ∷ items) =
    let more : List Signature = earlier ++ signature_of_item facts earlier item in
    let within : length earlier ≤ length more =
    omega (arith, length-append earlier (signature_of_item facts earlier item)) in
    sym (take-take (length earlier) (length more) (signatures_after facts more items) within)
    ∙ ap (take (length earlier)) (signatures-front facts more items)
    ∙ take_at earlier (signature_of_item facts earlier item) (length earlier) refl

-- the functions before the item of this number
pub signatures-before : (facts : Facts) (items : List Item) (number : ℕ)
    → take (length (signatures_after facts [] (take number items))) (signatures_in facts items)
    ≡ signatures_after facts [] (take number items)
signatures-before facts items number =
    let earlier : List Signature = signatures_after facts [] (take number items) in
    ap (take (length earlier)) (ap (signatures_after facts []) (sym (take-append-drop number items))
    ∙ signatures-append facts [] (take number items) (drop number items))
    ∙ signatures-front facts earlier (drop number items)

-- those before the next item
pub signatures-next : (facts : Facts) (items : List Item) (number : ℕ) (item : Item) → number < length items
    → item ≡ get_or items number item
    → signatures_after facts [] (take (number + 1) items)
    ≡ signatures_after facts [] (take number items)
    ++ signature_of_item facts (signatures_after facts [] (take number items)) item
signatures-next facts items number item within is =
    ap (signatures_after facts []) (take_more items number item within ∙ ap (λ x. take number items ++ x ∷ []) (sym is))
    ∙ signatures-append facts [] (take number items) (item ∷ [])

-- of which the summaries are these
pub first_of_all : (facts : Facts) (items : List Item) (number : ℕ) (kept : List kept.Signature)
    → kept ≡ map summary (signatures_after facts [] (take number items))
    → take (length kept) (signatures_in facts items) ≡ signatures_after facts [] (take number items)
first_of_all facts items number kept is =
    ap (λ n. take n (signatures_in facts items))
    (ap length is ∙ length-map (signatures_after facts [] (take number items)) summary)
    ∙ signatures-before facts items number

-- the summaries of the first ones are the first summaries
pub first_summaries : (all : List Signature) (kept : List kept.Signature) (level : ℕ) → kept ≡ map summary all
    → level ≤ length kept → take level kept ≡ map summary (take (length (take level kept)) all)
first_summaries all kept level is within =
    ap (take level) is ∙ take-map summary level all
    ∙ ap (λ n. map summary (take n all)) (sym (length-take-le level kept within))

-- all of them are the first ones of their number
pub all_of_them : (all : List Signature) (kept : List kept.Signature) → kept ≡ map summary all
    → take (length kept) all ≡ all
all_of_them all kept is =
    ap (λ n. take n all) (ap length is ∙ length-map all summary) ∙ take_all (length all) all (omega arith)

-- how many functions and named effects there are
length-item : (facts : Facts) (earlier : List Signature) (item : Item)
    → length (signature_of_item facts earlier item) ≡ length (function_name item)
length-item facts earlier (fact.Function token name params body) = refl
length-item facts earlier _ = refl

pub signatures-length : (facts : Facts) (earlier : List Signature) (items : List Item)
    → length (signatures_after facts earlier items) ≡ length earlier + length (flat_map function_name items)
signatures-length facts earlier [] = omega arith
signatures-length facts earlier (item ∷ items) =
    let rest = signatures-length facts (earlier ++ signature_of_item facts earlier item) items in
    let here = length-item facts earlier item in
    let both = length-append earlier (signature_of_item facts earlier item) in
    let names = length-append (function_name item) (flat_map function_name items) in
    omega arith

-- the signatures of what functions come to
signature-item : (facts : Facts) (earlier : List Meaning) (item : Item)
    → signatures_of (meaning_of_item facts earlier item) ≡ signature_of_item facts (signatures_of earlier) item
signature-item facts earlier (fact.Function token name params body) = refl
signature-item facts earlier _ = refl

signatures-meanings : (facts : Facts) (earlier : List Meaning) (items : List Item)
    → signatures_of (meanings_after facts earlier items) ≡ signatures_after facts (signatures_of earlier) items
signatures-meanings facts earlier [] = refl
signatures-meanings facts earlier (item ∷ items) =
    signatures-meanings facts (earlier ++ meaning_of_item facts earlier item) items
    ∙ ap (λ ss. signatures_after facts ss items)
    (map-append (λ m. m.signature) earlier (meaning_of_item facts earlier item)
    ∙ ap (λ ss. signatures_of earlier ++ ss) (signature-item facts earlier item))

-- of all functions that have meanings
pub signatures-of-meanings : (facts : Facts) (items : List Item)
    → map (λ m. m.signature) (meanings_in facts items) ≡ signatures_in facts items
signatures-of-meanings facts items = signatures-meanings facts [] items

-- there are as many summaries as signatures
pub as_many : (all : List Signature) (kept : List kept.Signature) → kept ≡ map summary all → length kept ≡ length all
as_many all kept is = ap length is ∙ length-map all summary
