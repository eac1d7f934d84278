-- Tasks lead to the same expression before and after one is done.
use Rattle.std.proofs.Common.{◌≡◌, ◌+◌, ℕ, List, [], ◌∷◌, ◌++◌, length, map, take, drop, slice_get, Option, None, Some, Bor, refl, sym, ◌∙◌, ap, subst, arith, append_assoc}
use Rattle.std.specs.List.{AllZip}
use Rattle.std.proofs.lemmas.List.{append-nil, length-map, take_all}
use Rattle.qc_lists.specs.Law.Lists.{slice_get-append_right}
use Rattle.qc_bodies.specs.declared.expand.Scope.{Scope}
use Rattle.qc_bodies.specs.declared.expand.Task.{Task}
use Rattle.qc_bodies.specs.declared.expand.Task.TheVariants as task
use Rattle.qc_bodies.specs.declared.nodes.Node.{Node}
use Rattle.qc_bodies.specs.declared.normal.Normal.{Normal}
use Rattle.qc_bodies.specs.declared.normal.Normals.{Normals}
use Rattle.qc_bodies.specs.declared.normal.Ranked.{Ranked}
use Rattle.qc_bodies.specs.declared.tree.Wrap as sort_of_wrap
use Rattle.qc_bodies.specs.Trees.{Core, one, Wrap}
use Rattle.qc_bodies.specs.Meanings.{Meaning, value}
use Rattle.qc_bodies.specs.Written.{written}
use Rattle.qc_bodies.specs.Nodes.{IsAt, Keeps}
use Rattle.qc_bodies.specs.Normals.{at_places, normal_of, ranked}
use Rattle.qc_bodies.specs.Law.Related.{related_append, related_length}
use Rattle.qc_bodies.specs.Inner.Expanding.{After, AfterAll, Found, IsScope, Leads, Only, Setting, Taking, out_in, written_functions}
use Rattle.qc_bodies.proofs.Marking.{AreOwn, own_ranks}
use Rattle.qc_bodies.proofs.Placed.{keep_all, places_push}
use Rattle.qc_bodies.proofs.Shaping.{length_functions}
use Rattle.qc_bodies.proofs.Tasks.{all_more, drop_get, drop_none, popped, pushed, pushed_both, scopes_keep, scope_there}

-- the scope of a setting
pub inside_is : (nodes : List Node) (scopes : List Scope) (settings : List Setting) (number : ℕ) (s : Setting)
    → AllZip (IsScope nodes) scopes settings → slice_get settings number ≡ Some s
    → (x : Scope) → slice_get scopes number ≡ Some x → IsScope nodes x s
inside_is nodes scopes settings number s fit is x get =
    let there = scope_there nodes scopes settings number s fit is in
    let same : there.0 ≡ x = cc (there.1, get) in
    subst (λ y. IsScope nodes y s) same there.2

module _ (normals : Normals) (scopes : List Scope) (todo : List Task) (places : List ℕ) (before : List Node) (e : Core one) where
  -- one expression is found
  pub one_found : (scope : ℕ) (body : Bor Normal) (h : Leads normals scopes (todo ++ task.One scope body ∷ []) places before e)
      → (nodes : List Node) → Keeps before nodes → (more : List ℕ) (x : Core one)
      → ((s : Setting) → slice_get h.settings scope ≡ Some s → x ≡ out_in (written_functions normals) s (normal_of body.now))
      → Found nodes places more x → Leads normals scopes todo more nodes e
  one_found scope body h nodes keeps more x same found =
      let ms = written_functions normals in
      let a = popped ms h.settings todo (task.One scope body) (Only e) h.found h.ends in
      let P : Core one → Type 0 = λ y. AfterAll ms h.settings todo (Only e) (h.found ++ y ∷ []) in
      record {
        settings = h.settings;
        fit = scopes_keep before nodes keeps scopes h.settings h.fit;
        found = h.found ++ x ∷ [];
        done = found h.found (keep_all before nodes keeps places h.found h.done);
        ends = subst P (sym (same a.setting a.is)) a.holds;
      }

  pub one_there : (scope : ℕ) (body : Bor Normal) (h : Leads normals scopes (todo ++ task.One scope body ∷ []) places before e)
      → (place : ℕ)
      → ((s : Setting) → slice_get h.settings scope ≡ Some s → IsAt before place (out_in (written_functions normals) s (normal_of body.now)))
      → Leads normals scopes todo (places ++ place ∷ []) before e
  one_there scope body h place there =
      let ms = written_functions normals in
      let a = popped ms h.settings todo (task.One scope body) (Only e) h.found h.ends in
      record {
        settings = h.settings;
        fit = h.fit;
        found = h.found ++ out_in ms a.setting (normal_of body.now) ∷ [];
        done = places_push before places h.found place (out_in ms a.setting (normal_of body.now)) h.done (there a.setting a.is);
        ends = a.holds;
      }

  -- it is left to two tasks
  pub two_tasks : (scope : ℕ) (body : Bor Normal) (h : Leads normals scopes (todo ++ task.One scope body ∷ []) places before e)
      → (t u : Task)
      → ((s : Setting) → slice_get h.settings scope ≡ Some s → (Q : List (Core one) → Type 0)
      → Q (h.found ++ out_in (written_functions normals) s (normal_of body.now) ∷ [])
      → After (written_functions normals) h.settings u (After (written_functions normals) h.settings t Q) h.found)
      → Leads normals scopes ((todo ++ t ∷ []) ++ u ∷ []) places before e
  two_tasks scope body h t u f =
      let ms = written_functions normals in
      let a = popped ms h.settings todo (task.One scope body) (Only e) h.found h.ends in
      record {
        settings = h.settings;
        fit = h.fit;
        found = h.found;
        done = h.done;
        ends = pushed_both ms h.settings todo t u (Only e) h.found (f a.setting a.is (AfterAll ms h.settings todo (Only e)) a.holds);
      }

  -- several are left to two tasks
  pub all_some : (scope : ℕ) (bodies : Bor (List Normal)) (next : ℕ) (body : Bor Normal)
      → Leads normals scopes (todo ++ task.All scope bodies next ∷ []) places before e
      → slice_get bodies.now next ≡ Some body.now
      → Leads normals scopes ((todo ++ task.All scope bodies (next + 1) ∷ []) ++ task.One scope body ∷ []) places before e
  all_some scope bodies next body h get =
      let ms = written_functions normals in
      let a = popped ms h.settings todo (task.All scope bodies next) (Only e) h.found h.ends in
      let Q : List (Core one) → Type 0 = AfterAll ms h.settings todo (Only e) in
      let f : Core one → Core one = out_in ms a.setting in
      let rest : List (Core one) = map f (map normal_of (drop (next + 1) bodies.now)) in
      let same : h.found ++ map f (map normal_of (drop next bodies.now)) ≡ (h.found ++ f (normal_of body.now) ∷ []) ++ rest =
      ap (λ l. h.found ++ map f (map normal_of l)) (drop_get bodies.now next body.now get)
      ∙ sym (append_assoc h.found (f (normal_of body.now) ∷ []) rest) in
      record {
        settings = h.settings;
        fit = h.fit;
        found = h.found;
        done = h.done;
        ends = pushed_both ms h.settings todo (task.All scope bodies (next + 1)) (task.One scope body) (Only e) h.found
            (record { setting = a.setting; is = a.is; holds = record { setting = a.setting; is = a.is; holds = subst Q same a.holds } });
      }

  pub all_none : (scope : ℕ) (bodies : Bor (List Normal)) (next : ℕ)
      → Leads normals scopes (todo ++ task.All scope bodies next ∷ []) places before e
      → slice_get bodies.now next ≡ None → Leads normals scopes todo places before e
  all_none scope bodies next h get =
      let ms = written_functions normals in
      let a = popped ms h.settings todo (task.All scope bodies next) (Only e) h.found h.ends in
      let Q : List (Core one) → Type 0 = AfterAll ms h.settings todo (Only e) in
      let f : Core one → Core one = out_in ms a.setting in
      record {
        settings = h.settings;
        fit = h.fit;
        found = h.found;
        done = h.done;
        ends = subst Q (ap (λ l. h.found ++ map f (map normal_of l)) (drop_none bodies.now next get) ∙ append-nil h.found) a.holds;
      }

  -- the last so many are made into one
  pub one_made : (t : Task) (h : Leads normals scopes (todo ++ t ∷ []) places before e) (count : ℕ) (make : List (Core one) → Core one)
      → Taking count make (AfterAll (written_functions normals) h.settings todo (Only e)) h.found
      → (nodes : List Node) → Keeps before nodes → (more : List ℕ)
      → ((us ps : List (Core one)) → AllZip (IsAt before) places (us ++ ps) → length ps ≡ count → AllZip (IsAt nodes) more (us ++ make ps ∷ []))
      → Leads normals scopes todo more nodes e
  one_made t h count make a nodes keeps more f =
      let P : List (Core one) → Type 0 = AllZip (IsAt before) places in
      record {
        settings = h.settings;
        fit = scopes_keep before nodes keeps scopes h.settings h.fit;
        found = a.front ++ make a.last ∷ [];
        done = f a.front a.last (subst P a.are h.done) a.many;
        ends = a.holds;
      }

  -- a function is gone into
  pub entered : (number : ℕ) (function : Bor Ranked) (chosen : Bor (List ℕ)) (count : ℕ)
      → Leads normals scopes (todo ++ task.Enter number function chosen count ∷ []) places before e
      → (nodes : List Node) → Keeps before nodes → (more : List ℕ) (scope : Scope) (body : Bor Normal)
      → scope.level ≡ number → scope.ranks.now ≡ function.now.ranks → body.now ≡ function.now.body
      → ((us ps : List (Core one)) → AllZip (IsAt before) places (us ++ ps) → length ps ≡ count
      → AllZip (IsAt nodes) more us × AllZip (IsAt nodes) scope.places (at_places ps chosen.now))
      → Leads normals (scopes ++ scope ∷ []) (todo ++ task.One (length scopes) body ∷ []) more nodes e
  entered number function chosen count h nodes keeps more scope body level ranks same f =
      let ms = written_functions normals in
      let a = popped ms h.settings todo (task.Enter number function chosen count) (Only e) h.found h.ends in
      let P : List (Core one) → Type 0 = AllZip (IsAt before) places in
      let got = f a.front a.last (subst P a.are h.done) a.many in
      let inside : Setting = record { level = number; ranks = function.now.ranks; stand = at_places a.last chosen.now } in
      let Q : List (Core one) → Type 0 = AfterAll ms (h.settings ++ inside ∷ []) todo (Only e) in
      let counted : length scopes ≡ length h.settings + 0 = omega (arith, related_length (IsScope before) scopes h.settings h.fit) in
      record {
        settings = h.settings ++ inside ∷ [];
        fit = related_append (IsScope nodes) scopes h.settings (scope ∷ []) (inside ∷ [])
            (scopes_keep before nodes keeps scopes h.settings h.fit) (record { level = level; ranks = ranks; places = got.1 }, tt);
        found = a.front;
        done = got.0;
        ends = pushed ms (h.settings ++ inside ∷ []) todo (task.One (length scopes) body) (Only e) a.front (record {
          setting = inside;
          is = ap (slice_get (h.settings ++ inside ∷ [])) counted ∙ slice_get-append_right h.settings (inside ∷ []) 0;
          holds = subst Q (ap (λ b. a.front ++ out_in ms inside (normal_of b) ∷ []) (sym same))
              (all_more ms h.settings (inside ∷ []) todo (Only e) (Only e) (λ es x. x) _ a.holds);
        });
      }

-- the tasks of an expression with parts
pub part_first : (ms : List (Meaning (Core one))) (settings : List Setting) (scope : ℕ) (s : Setting) → slice_get settings scope ≡ Some s
    → (part : Bor Normal) (token : ℕ) (wrap : sort_of_wrap.Wrap) (width : Option ℕ) (found : List (Core one)) (x : Core one)
    → x ≡ Wrap token wrap width (out_in ms s (normal_of part.now)) → (Q : List (Core one) → Type 0) → Q (found ++ x ∷ [])
    → After ms settings (task.One scope part) (After ms settings (task.Wrap token wrap width) Q) found
part_first ms settings scope s is part token wrap width found x same Q q =
    let P : Core one → Type 0 = λ y. Q (found ++ y ∷ []) in
    record {
      setting = s;
      is = is;
      holds = record { front = found; last = out_in ms s (normal_of part.now) ∷ []; are = refl; many = refl; holds = subst P same q };
    }

pub args_first : (ms : List (Meaning (Core one))) (settings : List Setting) (scope : ℕ) (s : Setting) → slice_get settings scope ≡ Some s
    → (args : Bor (List Normal)) (count : ℕ) → length args.now ≡ count → (make : List (Core one) → Core one) (found : List (Core one)) (x : Core one)
    → x ≡ make (map (out_in ms s) (map normal_of args.now)) → (Q : List (Core one) → Type 0) → Q (found ++ x ∷ [])
    → After ms settings (task.All scope args 0) (Taking count make Q) found
args_first ms settings scope s is args count counted make found x same Q q =
    let P : Core one → Type 0 = λ y. Q (found ++ y ∷ []) in
    record {
      setting = s;
      is = is;
      holds = record {
        front = found;
        last = map (out_in ms s) (map normal_of args.now);
        are = refl;
        many = length-map (map normal_of args.now) (out_in ms s) ∙ (length-map args.now normal_of ∙ counted);
        holds = subst P same q;
      };
    }

pub entered_as : (normals : Normals) (scopes : List Scope) (todo : List Task) (places : List ℕ) (before : List Node) (e : Core one)
    → (number : ℕ) (function : Bor Ranked) (chosen : Bor (List ℕ)) (count : ℕ)
    → Leads normals scopes (todo ++ task.Enter number function chosen count ∷ []) places before e
    → (nodes : List Node) → Keeps before nodes → (more : List ℕ) (scope : Scope) (body : Bor Normal)
    → scope.level ≡ number → scope.ranks.now ≡ function.now.ranks → body.now ≡ function.now.body
    → ((us ps : List (Core one)) → AllZip (IsAt before) places (us ++ ps) → length ps ≡ count
    → AllZip (IsAt nodes) more us × AllZip (IsAt nodes) scope.places (at_places ps chosen.now))
    → (inner : List Scope) (tasks : List Task) (k : ℕ)
    → inner ≡ scopes ++ scope ∷ [] → tasks ≡ todo ++ task.One k body ∷ [] → k ≡ length scopes
    → Leads normals inner tasks more nodes e
entered_as normals scopes todo places before e number function chosen count h nodes keeps more scope body level ranks same f inner tasks k is are last =
    let P : List Scope → Type 0 = λ l. Leads normals l tasks more nodes e in
    let Q : List Task → Type 0 = λ l. Leads normals (scopes ++ scope ∷ []) l more nodes e in
    subst P (sym is) (subst Q (sym (are ∙ ap (λ n. todo ++ task.One n body ∷ []) last))
    (entered normals scopes todo places before e number function chosen count h nodes keeps more scope body level ranks same f))

-- the one task at the beginning
pub begun : (normals : Normals) (nodes : List Node) (scope : Scope) (body : Bor Normal) (es : List (Core one))
    → scope.level ≡ length normals.functions → length scope.ranks.now ≡ length es → AreOwn scope.ranks.now → AllZip (IsAt nodes) scope.places es
    → (no_scopes inner : List Scope) (no_tasks tasks : List Task) (places : List ℕ)
    → no_scopes ≡ [] → inner ≡ no_scopes ++ scope ∷ [] → no_tasks ≡ [] → tasks ≡ no_tasks ++ task.One 0 body ∷ [] → places ≡ []
    → Leads normals inner tasks places nodes (value written (written_functions normals) [] es (normal_of body.now))
begun normals nodes scope body es level count own fit no_scopes inner no_tasks tasks places none is nothing are empty =
    let ms = written_functions normals in
    let e : Core one = value written ms [] es (normal_of body.now) in
    let whole : take (length normals.functions) ms ≡ ms = take_all (length normals.functions) ms (omega (arith, length_functions normals)) in
    let P : List Scope → Type 0 = λ l. Leads normals l tasks places nodes e in
    let Q : List Task → Type 0 = λ l. Leads normals (scope ∷ []) l places nodes e in
    let R : List ℕ → Type 0 = λ l. Leads normals (scope ∷ []) (task.One 0 body ∷ []) l nodes e in
    let inside : Setting = record { level = length normals.functions; ranks = scope.ranks.now; stand = es } in
    subst P (sym (is ∙ ap (λ l. l ++ scope ∷ []) none)) (subst Q (sym (are ∙ ap (λ l. l ++ task.One 0 body ∷ []) nothing)) (subst R (sym empty) (record {
      settings = inside ∷ [];
      fit = (record { level = level; ranks = refl; places = fit }, tt);
      found = [];
      done = tt;
      ends = record {
        setting = inside;
        is = refl;
        holds = ap (λ x. x ∷ []) (ap (λ l. value written l [] es (ranked scope.ranks.now (normal_of body.now))) whole
            ∙ own_ranks ms scope.ranks.now es count own (normal_of body.now));
      };
    })))
