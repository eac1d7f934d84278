-- The parameters and variables that were declared one after the other.
use Rattle.std.specs.Prelude.{ℕ, ◌≡◌, ◌||◌, List, [], ◌∷◌, ◌++◌, length, map, Option, None, Some}
use Rattle.std.specs.List.{fold}
use Rattle.std.proofs.Common.{refl, ap, sym, ◌∙◌, subst, append_assoc}
use Rattle.std.proofs.lemmas.List.{append-nil, map-append, length-map}
use Rattle.qc_grammar.specs.declared.cursor.Ident.{Ident}
use Rattle.qc_names.specs.Reported.{twice_if}
use Rattle.qc_names.specs.Tables.{named, number_at, entered, is_among, IsIndexOf}
use Rattle.qc_names.specs.ValueTables.{IsTableOf}
use Rattle.qc_names.specs.Law.Reported as law
use Rattle.qc_names.specs.Law.Tables.{index-none, index-entered, index-there, table-gives, table-misses}
use Rattle.qc_cmmtype.specs.declared.faults.ProgramFault.{ProgramFault}
use Rattle.qc_cmmtype.specs.declared.faults.ProgramFault.TheVariants.{TwiceNamed}
use Rattle.qc_cmmtype.specs.declared.procedures.Locals.{Locals}
use Rattle.qc_cmmtype.specs.Faults.{token_of, rank_of, reported, reported_of_both}
use Rattle.qc_cmmtype.specs.Scopes.{Globals, is_global, named_widths}
use Rattle.qc_cmmtype.specs.Procedures.{local_faults}
use Rattle.qc_cmmtype.specs.Inner.Locals.{no_locals, added, HasLocals}
use Rattle.qc_cmmtype.specs.Tables.{value_of, looked_up}

abbrev texts : List (Ident × ℕ) → List (List ℕ)
texts locals = map (λ l. l.0.text) locals

texts_are : (locals : List (Ident × ℕ)) → map (λ p. p.0) (named_widths locals) ≡ texts locals
texts_are [] = refl
texts_are (l ∷ locals) = ap (λ ts. l.0.text ∷ ts) (texts_are locals)

-- the faults of one more, which is declared after all others
one_more : (g : Globals) (before : List (List ℕ)) (locals : List (Ident × ℕ)) (l : Ident × ℕ)
    → local_faults g before (locals ++ l ∷ [])
    ≡ local_faults g before locals
    ++ twice_if TwiceNamed (is_global g l.0.text || is_among (before ++ texts locals) l.0.text) l.0.token
one_more g before [] l =
    append-nil (twice_if TwiceNamed (is_global g l.0.text || is_among before l.0.text) l.0.token)
    ∙ ap (λ b. twice_if TwiceNamed (is_global g l.0.text || is_among b l.0.text) l.0.token) (sym (append-nil before))
one_more g before (k ∷ locals) l =
    let own : List ProgramFault =
    twice_if TwiceNamed (is_global g k.0.text || is_among before k.0.text) k.0.token in
    ap (λ fs. own ++ fs) (one_more g (before ++ k.0.text ∷ []) locals l)
    ∙ ap (λ b. own ++ (local_faults g (before ++ k.0.text ∷ []) locals
    ++ twice_if TwiceNamed (is_global g l.0.text || is_among b l.0.text) l.0.token))
    (append_assoc before (k.0.text ∷ []) (texts locals))
    ∙ sym (append_assoc own (local_faults g (before ++ k.0.text ∷ []) locals)
    (twice_if TwiceNamed (is_global g l.0.text || is_among (before ++ k.0.text ∷ texts locals) l.0.text) l.0.token))

one_added : (g : Globals) (locals : List (Ident × ℕ)) (s : Locals) (l : Ident × ℕ) → HasLocals g locals s
    → HasLocals g (locals ++ l ∷ []) (added g s l)
unfolding added
one_added g locals s l has = record {
  table = record {
    values_are = ap (λ vs. vs ++ l.1 ∷ []) has.table.values_are
        ∙ sym (map-append (λ p. p.1) (named_widths locals) (named_widths (l ∷ [])))
        ∙ ap (map (λ p. p.1)) (sym (map-append (λ k. (k.0.text, k.1)) locals (l ∷ [])));
    index = subst (λ ns. IsIndexOf ns (entered s.variables.numbers l.0.text (length s.variables.values)))
        (sym (map-append (λ p. p.0) (named_widths locals) (named_widths (l ∷ [])))
        ∙ ap (map (λ p. p.0)) (sym (map-append (λ k. (k.0.text, k.1)) locals (l ∷ []))))
        (index-entered (map (λ p. p.0) (named_widths locals)) s.variables.numbers l.0.text (length s.variables.values)
        has.table.index
        (ap length has.table.values_are ∙ length-map (named_widths locals) (λ p. p.1)
        ∙ sym (length-map (named_widths locals) (λ p. p.0))));
  };
  fault = ap (λ b. reported_of_both s.fault (reported (twice_if TwiceNamed (is_global g l.0.text || b) l.0.token)))
      (index-there (map (λ p. p.0) (named_widths locals)) s.variables.numbers l.0.text has.table.index
      ∙ ap (λ ts. is_among ts l.0.text) (texts_are locals))
      ∙ ap (λ f. reported_of_both f (reported
      (twice_if TwiceNamed (is_global g l.0.text || is_among (texts locals) l.0.text) l.0.token))) has.fault
      ∙ sym (law.reported-append token_of rank_of (local_faults g [] locals)
      (twice_if TwiceNamed (is_global g l.0.text || is_among (texts locals) l.0.text) l.0.token))
      ∙ ap reported (sym (one_more g [] locals l));
}

all_added : (g : Globals) (before more : List (Ident × ℕ)) (s : Locals) → HasLocals g before s
    → HasLocals g (before ++ more) (fold (added g) s more)
all_added g before [] s has = subst (λ ls. HasLocals g ls s) (sym (append-nil before)) has
all_added g before (l ∷ more) s has =
    subst (λ ls. HasLocals g ls (fold (added g) (added g s l) more)) (append_assoc before (l ∷ []) more)
    (all_added g (before ++ l ∷ []) more (added g s l) (one_added g before s l has))

pub locals_hold : (g : Globals) (locals : List (Ident × ℕ)) → HasLocals g locals (fold (added g) no_locals locals)
locals_hold g locals =
    all_added g [] locals no_locals
    (record { table = record { values_are = refl; index = index-none }; fault = refl })

-- what a table has for a name
pub table_tells : {A : Type 0} (pairs : List (List ℕ × A)) (values : List A) (numbers : List (List ℕ × ℕ))
    (name : List ℕ) → IsTableOf pairs values numbers → looked_up values numbers name ≡ named pairs name
table_tells {A} pairs values numbers name is = by (number_at numbers name) refl
  where
    by : (o : Option ℕ) → number_at numbers name ≡ o → value_of values o ≡ named pairs name
    by None found = sym (table-misses pairs values numbers name is found)
    by (Some n) found = table-gives pairs values numbers name n is found
