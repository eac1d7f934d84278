-- The faults of patterns and items hang on which names there are, and not on how these are listed.
use Rattle.std.specs.Prelude.{ℕ, ◌+◌, ◌≡◌, ◌<◌, ◌||◌, List, [], ◌∷◌, ◌++◌, length, map, drop, Option}
use Rattle.std.specs.List.{flat_map, list_any}
use Rattle.std.specs.Str.{bytes_eq}
use Rattle.std.proofs.Common.{refl, ap, sym, ◌∙◌, subst, get_or}
use Rattle.std.proofs.lemmas.List.{at_drop_more}
use Rattle.std.proofs.lemmas.List.Folds.{list_any-append}
use Rattle.qc_names.specs.Seen.{none_seen, texts_of}
use Rattle.qc_names.specs.Law.Tables.{same_names}
use Rattle.qc_names.specs.Law.Seen.{has_seen}
use Rattle.qc_join.specs.declared.faults.NameFault.TheVariants.{Twice}
use Rattle.qc_names.specs.declared.seen.Seen.{Seen}
use Rattle.qc_grammar.specs.declared.cursor.Ident.{Ident}
use Rattle.qc_sled.specs.declared.syntax.Item.{Item}
use Rattle.qc_sled.specs.declared.syntax.Item.TheVariants as declaration
use Rattle.qc_sled.specs.declared.syntax.Param.{Param}
use Rattle.qc_sled.specs.declared.syntax.Pattern as tree
use Rattle.qc_sled.specs.declared.syntax.Pattern.{map-Pattern, ind-Pattern, fold-roll-Pattern}
use Rattle.qc_sled.specs.declared.syntax.Pattern.TheOpen.{Pattern-F, Name, Equal, Group, Conjunction, Sequence, Alternatives}
use Rattle.qc_sled.specs.declared.syntax.Value.{Value}
use Rattle.qc_sled.specs.declared.syntax.Value.TheVariants as value_of
use Rattle.qc_names.specs.Tables.{names_in, is_among, SameNames, HasNames}
use Rattle.qc_join.specs.declared.faults.NameFault.{NameFault}
use Rattle.qc_join.specs.Faults.{reported_of_both, reported, token_of, rank_of}
use Rattle.qc_join.specs.Names.{Names, unknown_unless, pattern_names, second_names, value_faults, faults_layer, pattern_faults, item_faults, items_faults}
use Rattle.qc_join.specs.Inner.KeptNames.{noted_all}
use Rattle.qc_names.specs.Law.Reported.{both_assoc, reported-append}

-- more names behind names that are the same
pub same_append : (names others more : List (List ℕ)) → SameNames names others
    → SameNames (names ++ more) (others ++ more)
same_append names others more same = record {
  same = λ name. list_any-append (bytes_eq name) names more
      ∙ ap (λ b. b || list_any (bytes_eq name) more) (same.same name)
      ∙ sym (list_any-append (bytes_eq name) others more);
}

-- The same names are in both, of each kind.
pub record AreSame (n m : Names) : Type 0 where
  pub fields : SameNames n.fields m.fields
  pub patterns : SameNames n.patterns m.patterns
  pub operands : SameNames n.operands m.operands

-- a use of a name
same_use : (names others : List (List ℕ)) (name : Ident) → SameNames names others
    → unknown_unless (is_among names name.text) name.token ≡ unknown_unless (is_among others name.text) name.token
same_use names others name same = ap (λ b. unknown_unless b name.token) (same.same name.text)

module _ (n m : Names) (same : AreSame n m) where
  -- of what a field is to be
  value_same : (v : Value) → value_faults n v ≡ value_faults m v
  value_same (value_of.Number value) = refl
  value_same (value_of.Operand name) = same_use n.operands m.operands name same.operands
  value_same (value_of.Bits name high low) = same_use n.operands m.operands name same.operands

  -- the same faults in both
  abbrev Agrees : (Names → List NameFault) → Type 0
  Agrees f = f n ≡ f m

  -- the same of a pattern
  abbrev PatternAgrees : tree.Pattern → Type 0
  PatternAgrees p = Agrees (pattern_faults p)

  -- of parts, each of which has the same faults in both
  parts_same : (parts : List ((p : tree.Pattern) × PatternAgrees p))
      → flat_map (λ (f : Names → List NameFault). f n) (map pattern_faults (map (λ a. a.0) parts))
      ≡ flat_map (λ (f : Names → List NameFault). f m) (map pattern_faults (map (λ a. a.0) parts))
  parts_same [] = refl
  parts_same (a ∷ parts) =
      ap (λ fs. fs ++ flat_map (λ (f : Names → List NameFault). f n) (map pattern_faults (map (λ b. b.0) parts))) a.1
      ∙ ap (λ fs. pattern_faults a.0 m ++ fs) (parts_same parts)

  -- of a field with its value
  equal_same : (field : Ident) (value : Value)
      → unknown_unless (is_among n.fields field.text) field.token ++ value_faults n value
      ≡ unknown_unless (is_among m.fields field.text) field.token ++ value_faults m value
  equal_same field value =
      ap (λ fs. fs ++ value_faults n value) (same_use n.fields m.fields field same.fields)
      ∙ ap (λ fs. unknown_unless (is_among m.fields field.text) field.token ++ fs) (value_same value)

  -- of a layer over patterns that have the same faults in both
  step : (y : Pattern-F ((p : tree.Pattern) × PatternAgrees p)) → Agrees (faults_layer (map-Pattern tree.Pattern (Names → List NameFault) pattern_faults (map-Pattern ((p : tree.Pattern) × PatternAgrees p) tree.Pattern (λ a. a.0) y)))
  step (Name name) = same_use n.patterns m.patterns name same.patterns
  step (Equal field value) = equal_same field value
  step (Group token inner) = inner.1
  step (Conjunction parts) = parts_same parts
  step (Sequence parts) = parts_same parts
  step (Alternatives parts) = parts_same parts

  -- the faults of a pattern, by induction on patterns
  pub pattern_same : (p : tree.Pattern) → pattern_faults p n ≡ pattern_faults p m
  unfolding pattern_faults
  pattern_same = ind-Pattern PatternAgrees (λ x y is.
      subst Agrees (sym (fold-roll-Pattern (Names → List NameFault) faults_layer x))
      (subst (λ z. Agrees (faults_layer (map-Pattern tree.Pattern (Names → List NameFault) pattern_faults z))) is (step y)))

module _ (operations others fields more_fields : List (List ℕ)) (same_operations : SameNames operations others)
    (same_fields : SameNames fields more_fields) where
  -- the faults of an item
  item_same : (patterns more_patterns : List (List ℕ)) → SameNames patterns more_patterns → (i : Item)
      → item_faults operations fields patterns i ≡ item_faults others more_fields more_patterns i
  item_same patterns more_patterns same (declaration.Fields token name bits parts) = refl
  item_same patterns more_patterns same (declaration.Pattern token name body) =
      pattern_same _ _ (record {
        fields = same_fields;
        patterns = same;
        operands = record { same = λ other. refl };
      }) body
  item_same patterns more_patterns same (declaration.Constructor token name params body) =
      ap (λ fs. fs ++ (second_names [] (map (λ p. p.name) params)
      ++ pattern_faults body
      (record { fields = fields; patterns = patterns; operands = map (λ p. p.name.text) params })))
      (same_use operations others name same_operations)
      ∙ ap (λ fs. unknown_unless (is_among others name.text) name.token
      ++ (second_names [] (map (λ p. p.name) params) ++ fs))
      (pattern_same _ _ (record {
        fields = same_fields;
        patterns = same;
        operands = record { same = λ other. refl };
      }) body)

  -- the faults of items
  pub items_same : (patterns more_patterns : List (List ℕ)) → SameNames patterns more_patterns → (items : List Item)
      → items_faults operations fields patterns items ≡ items_faults others more_fields more_patterns items
  items_same patterns more_patterns same [] = refl
  items_same patterns more_patterns same (i ∷ items) =
      ap (λ fs. fs ++ items_faults operations fields (patterns ++ texts_of (pattern_names i)) items)
      (item_same patterns more_patterns same i)
      ∙ ap (λ fs. item_faults others more_fields more_patterns i ++ fs)
      (items_same (patterns ++ texts_of (pattern_names i)) (more_patterns ++ texts_of (pattern_names i))
      (same_append patterns more_patterns (texts_of (pattern_names i)) same) items)

-- the texts of parameters' names
param_texts : (params : List Param) → texts_of (map (λ p. p.name) params) ≡ map (λ p. p.name.text) params
param_texts [] = refl
param_texts (p ∷ params) = ap (λ ts. p.name.text ∷ ts) (param_texts params)

-- a constructor's body, whose operands are the parameters that were seen
pub operands_same : (fields patterns : List (List ℕ)) (params : List Param) (seen : Seen NameFault) (body : tree.Pattern)
    → seen ≡ noted_all none_seen (map (λ p. p.name) params)
    → pattern_faults body (record { fields = fields; patterns = patterns; operands = names_in seen.names })
    ≡ pattern_faults body
    (record { fields = fields; patterns = patterns; operands = map (λ p. p.name.text) params })
operands_same fields patterns params seen body is =
    pattern_same _ _ (record {
      fields = same_names fields;
      patterns = same_names patterns;
      operands = subst (λ s. HasNames s.names (map (λ p. p.name.text) params)) (sym is)
          (subst (HasNames (noted_all none_seen (map (λ p. p.name) params)).names) (param_texts params)
          (has_seen token_of rank_of Twice (map (λ p. p.name) params)));
    }) body

-- a loop over items, where the patterns so far are in a table
pub items_more : (operations fields old new : List (List ℕ)) (items : List Item) (i : ℕ) (x : Item)
    (found this next whole : Option NameFault) → i < length items → x ≡ get_or items i x
    → SameNames new (old ++ texts_of (pattern_names x)) → this ≡ reported (item_faults operations fields old x)
    → next ≡ reported_of_both found this
    → reported_of_both found (reported (items_faults operations fields old (drop i items))) ≡ whole
    → reported_of_both next (reported (items_faults operations fields new (drop (i + 1) items))) ≡ whole
items_more operations fields old new items i x found this next whole within is same by joined before =
    let own : List NameFault = item_faults operations fields old x in
    let rest : List NameFault = items_faults operations fields (old ++ texts_of (pattern_names x)) (drop (i + 1) items)
    in
    let here : items_faults operations fields old (drop i items) ≡ own ++ rest =
    at_drop_more (items_faults operations fields old) items i x within
    ∙ ap (λ y. items_faults operations fields old (y ∷ drop (i + 1) items)) (sym is) in
    ap (λ fs. reported_of_both next (reported fs))
    (items_same operations operations fields fields (same_names operations) (same_names fields) new
    (old ++ texts_of (pattern_names x)) same (drop (i + 1) items))
    ∙ ap (λ n. reported_of_both n (reported rest)) joined ∙ both_assoc token_of rank_of found this (reported rest)
    ∙ ap (reported_of_both found) (ap (λ n. reported_of_both n (reported rest)) by ∙ sym (reported-append token_of rank_of own rest) ∙ sym (ap reported here))
    ∙ before
