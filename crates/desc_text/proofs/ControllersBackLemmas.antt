-- The tables of controllers are read back, by what each type asks at its keys.
use Rattle.std.proofs.Common.{◌≡◌, ℕ, zero, suc, ◌≤◌, Bool, true, false, List, [], ◌++◌}
use Rattle.std.proofs.Common.{length, Option, Some, None, Ok, refl, sym, ap, ◌∙◌, arith}
use Rattle.std.specs.Prelude.{codes, nat_le, ◌==◌, ◌&&◌}
use Rattle.std.specs.List.{AllByRecursion}
use Rattle.std.specs.Option.{option_map_or}
use Rattle.std.proofs.lemmas.Bool.{leb-true, eqb-true, and_parts}
use Rattle.std.proofs.lemmas.List.{nil_from_length}
use Rattle.toml.specs.Data.{Members, string, get_member}
use Rattle.iface_names.specs.Interfaces.{interface_text}
use Rattle.iface_names.specs.declared.interface.IfaceName.{IfaceName}
use Rattle.cm_document.specs.Given.{IsName, IsWhole, IsNamed, IsOfJoint}
use Rattle.cm_document.specs.Params.{kind_of, claims_asked, reads_asked, fewest_claims}
use Rattle.cm_document.specs.Params.{most_claims, reads_beside, made_of}
use Rattle.cm_document.specs.Reading.{◌>>=◌}
use Rattle.cm_document.specs.Vocabulary.{controller_kinds, controller_word}
use Rattle.cm_document.specs.Forms.{one, list_of, all_or_list, whole_in, name_in, word_in, interface_in, state_in}
use Rattle.cm_document.specs.Tables.{required_read, defaulted_read, unlisted, walk}
use Rattle.cm_document.specs.Described.{Headed, a_headed, links_key, claims_key, reads_key}
use Rattle.cm_document.specs.Described.{own_keys, controller_table, type_of, controller_form}
use Rattle.cm_document.specs.declared.description.CtlDesc.{CtlDesc}
use Rattle.cm_document.specs.declared.description.CtlKind.{CtlKind}
use Rattle.cm_document.specs.declared.description.CtlKind.TheVariants as kind
use Rattle.cm_document.specs.declared.description.KeyAsked.{KeyAsked}
use Rattle.cm_document.specs.declared.description.KeyAsked.TheVariants.{NoKey, Optional, Listed, ListedOrAll}
use Rattle.cm_document.specs.declared.description.Params.{Params}
use Rattle.cm_document.specs.declared.description.Params.TheVariants as params
use Rattle.desc_text.specs.Printed.{Row, table_of, text, whole, names, interfaces, reads_value, controller_tree}
use Rattle.desc_text.specs.Readable.{Fits, ControllerIsReadable}
use Rattle.desc_text.proofs.RowLemmas.{value_at, none_besides}
use Rattle.desc_text.proofs.BackLemmas.{name_back, whole_back, controller_word_back, interface_back}
use Rattle.desc_text.proofs.BackLemmas.{state_back, each_so, array_back, list_back, full_list_back}
use Rattle.desc_text.proofs.BackLemmas.{required_at, defaulted_at, one_back}
use Rattle.desc_text.proofs.OwnKeyLemmas.{rows_of, own_at}

-- ---- What every type has

-- what a controller of every type says of itself can be read back
record HeadIsReadable (head : Headed) : Type 0 where
  pub named : IsName head.name
  pub rate : IsWhole head.rate
  pub fallback : AllByRecursion IsName head.fallback

-- a table has this head, of a controller of this type
record HeadReads (prefix : List ℕ) (ms : Members) (head : Headed) (kind : CtlKind) : Type 0 where
  pub name : required_read (one name_in) (prefix ++ codes "name") (get_member (codes "name") ms) ≡ Ok head.name
  pub type_is : required_read (one (word_in controller_kinds)) (prefix ++ codes "type") (get_member (codes "type") ms)
      ≡ Ok kind
  pub rate : defaulted_read (one whole_in) 0 (prefix ++ codes "update_rate") (get_member (codes "update_rate") ms)
      ≡ Ok head.rate
  pub fallback : defaulted_read (list_of name_in) [] (prefix ++ codes "fallback") (get_member (codes "fallback") ms)
      ≡ Ok head.fallback

-- the head of a printed table is read back
head_back : (head : Headed) → HeadIsReadable head → (kind : CtlKind) (rows : List Row) (prefix : List ℕ)
    → value_at (codes "name") rows None ≡ text head.name
    → value_at (codes "type") rows None ≡ text (controller_word kind)
    → value_at (codes "update_rate") rows None ≡ whole head.rate
    → value_at (codes "fallback") rows None ≡ names head.fallback
    → HeadReads prefix (table_of rows) head kind
head_back head can kind rows prefix a b c d = record {
  name = required_at (codes "name") (one name_in) rows (prefix ++ codes "name") head.name
      (ap (required_read (one name_in) (prefix ++ codes "name")) a ∙ one_back _ _ _ (name_back head.name can.named));
  type_is = required_at (codes "type") (one (word_in controller_kinds)) rows (prefix ++ codes "type") kind
      (ap (required_read (one (word_in controller_kinds)) (prefix ++ codes "type")) b
      ∙ one_back _ _ _ (controller_word_back kind));
  rate = defaulted_at (codes "update_rate") (one whole_in) 0 rows (prefix ++ codes "update_rate") head.rate
      (ap (defaulted_read (one whole_in) 0 (prefix ++ codes "update_rate")) c
      ∙ one_back _ _ _ (whole_back head.rate can.rate));
  fallback = defaulted_at (codes "fallback") (list_of name_in) [] rows (prefix ++ codes "fallback") head.fallback
      (ap (defaulted_read (list_of name_in) [] (prefix ++ codes "fallback")) d
      ∙ list_back name_in string (prefix ++ codes "fallback") head.fallback
      (each_so IsName _ name_back head.fallback can.fallback));
}

-- a controller is read by the table of its type
typed_read : (states : List IfaceName) (prefix : List ℕ) (ms : Members) (kind : CtlKind) (c : CtlDesc)
    → type_of prefix ms ≡ Ok kind
    → (walk (controller_table states kind)).read prefix ms ≡ Ok c → (controller_form states).read prefix ms ≡ Ok c
typed_read states prefix ms kind c typed read =
    ap (λ r. r >>= λ k. (walk (controller_table states k)).read prefix ms) typed ∙ read

-- the claims of a table are read as these
abbrev ClaimsRead : List ℕ → Members → List IfaceName → Type 0
ClaimsRead prefix ms claims =
    required_read (list_of interface_in) (prefix ++ codes "claims") (get_member (codes "claims") ms) ≡ Ok claims

-- and its reads as these
abbrev ReadsRead : List ℕ → Members → List IfaceName → Type 0
ReadsRead prefix ms reads =
    required_read (list_of state_in) (prefix ++ codes "reads") (get_member (codes "reads") ms) ≡ Ok reads

-- claims are read back
claims_back : (rows : List Row) (prefix : List ℕ) (claims : List IfaceName) → AllByRecursion IsNamed claims
    → 1 ≤ length claims
    → value_at (codes "claims") rows None ≡ interfaces claims → ClaimsRead prefix (table_of rows) claims
claims_back rows prefix claims named some e =
    required_at (codes "claims") (list_of interface_in) rows (prefix ++ codes "claims") claims
    (ap (required_read (list_of interface_in) (prefix ++ codes "claims")) e
    ∙ full_list_back interface_in (λ i. string (interface_text i)) (prefix ++ codes "claims") claims
    (each_so IsNamed _ interface_back claims named) some)

-- reads are read back
reads_back : (rows : List Row) (prefix : List ℕ) (reads : List IfaceName) → AllByRecursion IsOfJoint reads
    → 1 ≤ length reads
    → value_at (codes "reads") rows None ≡ interfaces reads → ReadsRead prefix (table_of rows) reads
reads_back rows prefix reads named some e =
    required_at (codes "reads") (list_of state_in) rows (prefix ++ codes "reads") reads
    (ap (required_read (list_of state_in) (prefix ++ codes "reads")) e
    ∙ full_list_back state_in (λ i. string (interface_text i)) (prefix ++ codes "reads") reads
    (each_so IsOfJoint _ state_back reads named) some)

-- ---- What depends on the type

-- the head of a printed table is read back
head_at : (head : Headed) (claims reads : List IfaceName) (p : Params) → HeadIsReadable head → (prefix : List ℕ)
    → HeadReads prefix (table_of (rows_of head claims reads p)) head (kind_of p)
head_at head claims reads (params.Forward outs) can prefix =
    head_back head can kind.Forward (rows_of head claims reads (params.Forward outs)) prefix refl refl refl refl
head_at head claims reads p can prefix =
    head_back head can (kind_of p) (rows_of head claims reads p) prefix refl refl refl refl

-- these interfaces, if there is a key for them
abbrev kept : KeyAsked → List IfaceName → List IfaceName
kept NoKey links = []
kept _ links = links

-- so many claims are as many as is asked at their key
abbrev suits_claims : KeyAsked → ℕ → ℕ → Bool
suits_claims NoKey fewest most = most == 0
suits_claims Optional fewest most = true
suits_claims _ fewest most = nat_le 1 fewest

claims_suit : (p : Params) → suits_claims (claims_asked (kind_of p)) (fewest_claims p) (most_claims p) ≡ true
claims_suit (params.Forward outs) = refl
claims_suit _ = refl

-- no reads are none, if there is no key for them,
abbrev suits_none : KeyAsked → Option ℕ → Bool
suits_none NoKey beside = option_map_or (λ reads. reads == 0) beside false
suits_none _ beside = true

none_suit : (p : Params) (claims : ℕ) → suits_none (reads_asked (kind_of p)) (reads_beside p claims) ≡ true
none_suit (params.Forward outs) claims = refl
none_suit _ claims = refl

-- and at least so many, by what is asked at their key,
abbrev fewest_read : KeyAsked → ℕ
fewest_read Listed = 1
fewest_read _ = 0

-- where there is a claim for each,
some_claimed : (p : Params) → fewest_read (reads_asked (kind_of p)) ≤ fewest_claims p
some_claimed (params.Forward outs) = omega arith
some_claimed _ = omega arith

-- beside any number of these
some_beside : (p : Params) (others : ℕ)
    → fewest_read (reads_asked (kind_of p)) ≤ option_map_or (λ reads. reads) (reads_beside p (suc others)) 0
some_beside (params.Forward outs) others = omega arith
some_beside _ others = omega arith

-- what is claimed has a key,
claims_kept : (asked : KeyAsked) (fewest most : ℕ) (claims : List IfaceName) → suits_claims asked fewest most ≡ true
    → (nat_le fewest (length claims) && nat_le (length claims) most) ≡ true → claims ≡ kept asked claims
claims_kept NoKey fewest most claims suits fits =
    let both = and_parts (nat_le fewest (length claims)) (nat_le (length claims) most) fits in
    nil_from_length claims (omega (arith, eqb-true most 0 suits, leb-true (length claims) most both.1))
claims_kept _ fewest most claims suits fits = refl

-- so has what is read
reads_kept : (asked : KeyAsked) (beside : Option ℕ) (reads : List IfaceName) → suits_none asked beside ≡ true
    → option_map_or (λ n. length reads == n) beside true ≡ true → reads ≡ kept asked reads
reads_kept NoKey None reads suits fits = cc
reads_kept NoKey (Some n) reads suits fits =
    nil_from_length reads (omega (arith, eqb-true n 0 suits, eqb-true (length reads) n fits))
reads_kept _ beside reads suits fits = refl

-- a table of what has a key has no other key
listed_kept : (states : List IfaceName) (head : Headed) (claims reads : List IfaceName) (p : Params)
    → unlisted (controller_table states (kind_of p)).keys
    (table_of (rows_of head (kept (claims_asked (kind_of p)) claims) (kept (reads_asked (kind_of p)) reads) p)) ≡ []
unfolding controller_table
listed_kept states head claims reads (params.Forward outs) =
    none_besides (controller_table states kind.Forward).keys (rows_of head claims [] (params.Forward outs)) refl
listed_kept states head claims reads p =
    none_besides (controller_table states (kind_of p)).keys
    (rows_of head (kept (claims_asked (kind_of p)) claims) (kept (reads_asked (kind_of p)) reads) p) refl

-- it has no key but those of its type
listed_at : (states : List IfaceName) (head : Headed) (claims reads : List IfaceName) (p : Params) → Fits p claims reads
    → unlisted (controller_table states (kind_of p)).keys (table_of (rows_of head claims reads p)) ≡ []
listed_at states head claims reads p fits =
    let keys = (controller_table states (kind_of p)).keys in
    let claimed =
    claims_kept (claims_asked (kind_of p)) (fewest_claims p) (most_claims p) claims (claims_suit p) fits.claims in
    let read = reads_kept (reads_asked (kind_of p)) (reads_beside p (length claims)) reads (none_suit p (length claims))
    fits.reads in
    ap (λ (cs : List IfaceName). unlisted keys (table_of (rows_of head cs reads p))) claimed
    ∙ ap (λ (rs : List IfaceName). unlisted keys
    (table_of (rows_of head (kept (claims_asked (kind_of p)) claims) rs p))) read
    ∙ listed_kept states head claims reads p

-- the row of its claims
claims_row : (head : Headed) (claims reads : List IfaceName) (p : Params)
    → value_at (codes "claims") (rows_of head claims reads p) None ≡ interfaces claims
claims_row head claims reads (params.Forward outs) = refl
claims_row head claims reads p = refl

-- they are read back, whatever is asked at their key
claims_by : (asked : KeyAsked) (rows : List Row) (prefix : List ℕ) (claims : List IfaceName) (fewest most : ℕ)
    → suits_claims asked fewest most ≡ true
    → (nat_le fewest (length claims) && nat_le (length claims) most) ≡ true → AllByRecursion IsNamed claims
    → value_at (codes "claims") rows None ≡ interfaces claims
    → (links_key asked (codes "claims") (list_of interface_in) (list_of interface_in)).form.read prefix (table_of rows)
    ≡ Ok claims
claims_by NoKey rows prefix claims fewest most suits fits named e =
    ap Ok (sym (claims_kept NoKey fewest most claims suits fits))
claims_by Optional rows prefix claims fewest most suits fits named e =
    defaulted_at (codes "claims") (list_of interface_in) [] rows (prefix ++ codes "claims") claims
    (ap (defaulted_read (list_of interface_in) [] (prefix ++ codes "claims")) e
    ∙ list_back interface_in (λ i. string (interface_text i)) (prefix ++ codes "claims") claims
    (each_so IsNamed _ interface_back claims named))
claims_by _ rows prefix claims fewest most suits fits named e =
    let both = and_parts (nat_le fewest (length claims)) (nat_le (length claims) most) fits in
    claims_back rows prefix claims named
    (omega (arith, leb-true 1 fewest suits, leb-true fewest (length claims) both.0)) e

claims_at : (head : Headed) (claims reads : List IfaceName) (p : Params) → Fits p claims reads
    → AllByRecursion IsNamed claims → (prefix : List ℕ)
    → (claims_key (kind_of p)).form.read prefix (table_of (rows_of head claims reads p)) ≡ Ok claims
claims_at head claims reads p fits named prefix =
    claims_by (claims_asked (kind_of p)) (rows_of head claims reads p) prefix claims (fewest_claims p) (most_claims p)
    (claims_suit p) fits.claims named (claims_row head claims reads p)

-- the row of its reads
reads_there : (head : Headed) (claims reads : List IfaceName) (p : Params)
    → value_at (codes "reads") (rows_of head claims reads p) None ≡ reads_value (reads_asked (kind_of p)) reads
reads_there head claims reads (params.Forward outs) = refl
reads_there head claims reads p = refl

-- as many are read as are told of
told_read : (beside : Option ℕ) (reads : List IfaceName) → 1 ≤ option_map_or (λ n. n) beside 0
    → option_map_or (λ n. length reads == n) beside true ≡ true → 1 ≤ length reads
told_read None reads some read = absurd (omega (arith, some))
told_read (Some n) reads some read = omega (arith, some, eqb-true (length reads) n read)

-- reads that must be listed are some
some_listed : (fewest most claims : ℕ) (beside : ℕ → Option ℕ) (reads : List IfaceName) → 1 ≤ fewest
    → ((others : ℕ) → 1 ≤ option_map_or (λ n. n) (beside (suc others)) 0)
    → (nat_le fewest claims && nat_le claims most) ≡ true
    → option_map_or (λ n. length reads == n) (beside claims) true ≡ true → 1 ≤ length reads
some_listed fewest most zero beside reads claimed some fits read =
    absurd (omega (arith, claimed, leb-true fewest 0 (and_parts (nat_le fewest 0) (nat_le 0 most) fits).0))
some_listed fewest most (suc others) beside reads claimed some fits read =
    told_read (beside (suc others)) reads (some others) read

-- they are read back, whatever is asked at their key
reads_by : (asked : KeyAsked) (states : List IfaceName) (rows : List Row) (prefix : List ℕ)
    (claims reads : List IfaceName) (fewest most : ℕ) (beside : ℕ → Option ℕ)
    → suits_none asked (beside (length claims)) ≡ true → fewest_read asked ≤ fewest
    → ((others : ℕ) → fewest_read asked ≤ option_map_or (λ n. n) (beside (suc others)) 0)
    → (nat_le fewest (length claims) && nat_le (length claims) most) ≡ true
    → option_map_or (λ n. length reads == n) (beside (length claims)) true ≡ true
    → AllByRecursion IsOfJoint reads → value_at (codes "reads") rows None ≡ reads_value asked reads
    → (links_key asked (codes "reads") (list_of state_in) (all_or_list states)).form.read prefix (table_of rows)
    ≡ Ok reads
reads_by NoKey states rows prefix claims reads fewest most beside none claimed some fits read named e =
    ap Ok (sym (reads_kept NoKey (beside (length claims)) reads none read))
reads_by Optional states rows prefix claims reads fewest most beside none claimed some fits read named e =
    defaulted_at (codes "reads") (list_of state_in) [] rows (prefix ++ codes "reads") reads
    (ap (defaulted_read (list_of state_in) [] (prefix ++ codes "reads")) e
    ∙ list_back state_in (λ i. string (interface_text i)) (prefix ++ codes "reads") reads
    (each_so IsOfJoint _ state_back reads named))
reads_by Listed states rows prefix claims reads fewest most beside none claimed some fits read named e =
    reads_back rows prefix reads named (some_listed fewest most (length claims) beside reads claimed some fits read) e
reads_by ListedOrAll states rows prefix claims reads fewest most beside none claimed some fits read named e =
    required_at (codes "reads") (all_or_list states) rows (prefix ++ codes "reads") reads
    (ap (required_read (all_or_list states) (prefix ++ codes "reads")) e
    ∙ array_back state_in (λ i. string (interface_text i)) (prefix ++ codes "reads") reads
    (each_so IsOfJoint _ state_back reads named))

reads_at : (states : List IfaceName) (head : Headed) (claims reads : List IfaceName) (p : Params) → Fits p claims reads
    → AllByRecursion IsOfJoint reads → (prefix : List ℕ)
    → (reads_key states (kind_of p)).form.read prefix (table_of (rows_of head claims reads p)) ≡ Ok reads
reads_at states head claims reads p fits named prefix =
    reads_by (reads_asked (kind_of p)) states (rows_of head claims reads p) prefix claims reads (fewest_claims p)
    (most_claims p) (reads_beside p) (none_suit p (length claims)) (some_claimed p)
    (some_beside p) fits.claims fits.reads named (reads_there head claims reads p)

-- ---- Every type

-- a table in which all this is read is that of the controller
table_read : (states : List IfaceName) (prefix : List ℕ) (ms : Members) (head : Headed) (kind : CtlKind)
    (claims reads : List IfaceName) (own p : Params)
    → unlisted (controller_table states kind).keys ms ≡ [] → HeadReads prefix ms head kind
    → (claims_key kind).form.read prefix ms ≡ Ok claims
    → (reads_key states kind).form.read prefix ms ≡ Ok reads → (own_keys kind).form.read prefix ms ≡ Ok own
    → made_of own claims reads ≡ p
    → (walk (controller_table states kind)).read prefix ms ≡ Ok (a_headed head claims reads p)
unfolding controller_table
table_read states prefix ms head kind claims reads own p listed h a b o made =
    rw (listed, h.name, h.type_is, h.rate, h.fallback, a, b, o, made) refl

-- what claims and reads tell is filled in again
made_again : (p : Params) (claims reads : List IfaceName)
    → made_of (made_of p [] []) claims reads ≡ made_of p claims reads
made_again (params.Forward outs) claims reads = refl
made_again _ claims reads = refl

-- the table of a controller with this head and these parameters is read back
form_back : (states : List IfaceName) (head : Headed) (claims reads : List IfaceName) (p : Params) → HeadIsReadable head
    → AllByRecursion IsNamed claims → AllByRecursion IsOfJoint reads → Fits p claims reads
    → (prefix : List ℕ)
    → (controller_form states).read prefix (controller_tree (a_headed head claims reads p))
    ≡ Ok (a_headed head claims reads p)
form_back states head claims reads p can named read fits prefix =
    let h = head_at head claims reads p can prefix in
    typed_read states prefix (table_of (rows_of head claims reads p)) (kind_of p) (a_headed head claims reads p)
    h.type_is
    (table_read states prefix (table_of (rows_of head claims reads p)) head (kind_of p) claims reads (made_of p [] []) p
    (listed_at states head claims reads p fits) h (claims_at head claims reads p fits named prefix)
    (reads_at states head claims reads p fits read prefix)
    (own_at head claims reads p fits.numbers prefix) (made_again p claims reads ∙ fits.made))

-- the table of a controller is read back, whatever `all` stands for
pub controller_back : (states : List IfaceName) (c : CtlDesc) → ControllerIsReadable c → (prefix : List ℕ)
    → (controller_form states).read prefix (controller_tree c) ≡ Ok c
controller_back states c can prefix =
    let head : Headed = record { name = c.name; rate = c.rate; fallback = c.fallback } in
    form_back states head c.claims c.reads c.params
    (record { named = can.named; rate = can.rate; fallback = can.fallback }) can.claims can.reads can.fits prefix
