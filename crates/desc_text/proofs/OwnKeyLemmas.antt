-- The keys that a type alone has: what is known of what was read there, and that what is printed is read back.
use Rattle.std.proofs.Common.{◌≡◌, ℕ, ℤ, pos, Bool, false, List, [], ◌++◌, None, Ok, refl, ap, ◌∙◌, arith}
use Rattle.std.specs.Prelude.{codes}
use Rattle.std.proofs.lemmas.Int.{ints}
use Rattle.toml.specs.Data.{Members, get_member}
use Rattle.fixed_num.specs.Micro.{largest, IsInRange}
use Rattle.iface_names.specs.declared.interface.IfaceName.{IfaceName}
use Rattle.iface_names.specs.declared.kind.Kind.TheVariants.{Position}
use Rattle.cm_document.specs.Described.{Headed, a_headed, own_keys}
use Rattle.cm_document.specs.Forms.{one, list_of, whole_in, quantity_in, boolean_in}
use Rattle.cm_document.specs.Given.{AreWholes, AreNumbers}
use Rattle.cm_document.specs.Params.{kind_of, made_of}
use Rattle.cm_document.specs.Tables.{required, required_read, defaulted, defaulted_read}
use Rattle.cm_document.specs.declared.description.CtlKind.{CtlKind}
use Rattle.cm_document.specs.declared.description.CtlKind.TheVariants as kind
use Rattle.cm_document.specs.declared.description.Params.{Params}
use Rattle.cm_document.specs.declared.description.Params.TheVariants as params
use Rattle.cm_document.proofs.GivenLemmas.{Gives, filled_gives, next_key, any_key, required_gives, defaulted_gives}
use Rattle.cm_document.proofs.ValueLemmas.{quantity_gives, wholes_give}
use Rattle.desc_text.specs.Printed.{Row, table_of, quantity, controller_rows}
use Rattle.desc_text.proofs.RowLemmas.{value_at}
use Rattle.desc_text.proofs.BackLemmas.{quantity_back, cycles_back, required_at, defaulted_at, one_back}

-- ---- What is read there

-- a quantity
quantity_key : (key : List ℕ) → Gives (required key (one quantity_in)).form.read IsInRange
quantity_key key = required_gives key (one quantity_in) IsInRange quantity_gives

-- one that may be missing
quantity_or_zero : (key : List ℕ) → Gives (defaulted key (one quantity_in) (pos 0)).form.read IsInRange
quantity_or_zero key =
    defaulted_gives key (one quantity_in) (pos 0) IsInRange quantity_gives (omega (arith, ints), omega (arith, ints))

-- cycles
cycles_key : (key : List ℕ) → Gives (defaulted key (list_of whole_in) []).form.read AreWholes
cycles_key key = defaulted_gives key (list_of whole_in) [] AreWholes wholes_give tt

-- the numbers of the parameters are in their range
pub own_give : (kind : CtlKind) → Gives (own_keys kind).form.read AreNumbers
own_give kind.Pid =
    next_key _ _ IsInRange AreNumbers
    (next_key _ _ IsInRange _ (next_key _ _ IsInRange _ (next_key _ _ IsInRange _ (next_key _ _ IsInRange _
    (filled_gives _ _ (λ kp p ki i kd d imax m omax o. record { within = (p, (i, (d, (m, (o, tt))))); wholes = tt }))
    (quantity_or_zero (codes "kp"))) (quantity_or_zero (codes "ki"))) (quantity_or_zero (codes "kd")))
    (quantity_or_zero (codes "imax")))
    (defaulted_gives (codes "omax") (one quantity_in) largest IsInRange quantity_gives
    (omega (arith, ints), omega (arith, ints)))
own_give kind.Mock =
    next_key _ _ AreWholes AreNumbers (next_key _ _ AreWholes _ (any_key {A = Bool} _ _ _
    (filled_gives _ _ (λ refuse_config not_ready r fail_update f. record { within = tt; wholes = (r, (f, tt)) })))
    (cycles_key (codes "not_ready"))) (cycles_key (codes "fail_update"))
own_give kind.Transmission =
    next_key _ _ IsInRange AreNumbers (next_key _ _ IsInRange _
    (filled_gives _ _ (λ reduction r offset o. record { within = (r, (o, tt)); wholes = tt }))
    (quantity_key (codes "reduction"))) (quantity_or_zero (codes "offset"))
own_give kind.Differential =
    next_key _ _ IsInRange AreNumbers (next_key _ _ IsInRange _ (next_key _ _ IsInRange _ (next_key _ _ IsInRange _
    (filled_gives _ _
    (λ reduction1 r reduction2 s offset1 o offset2 p. record { within = (r, (s, (o, (p, tt)))); wholes = tt }))
    (quantity_key (codes "reduction1"))) (quantity_key (codes "reduction2"))) (quantity_or_zero (codes "offset1")))
    (quantity_or_zero (codes "offset2"))
own_give kind.Limiter =
    next_key _ _ IsInRange AreNumbers (next_key _ _ IsInRange _ (next_key _ _ IsInRange _ (next_key _ _ IsInRange _
    (filled_gives _ _ (λ lowest l highest h vmax v amax a. record { within = (l, (h, (v, (a, tt)))); wholes = tt }))
    (quantity_key (codes "min"))) (quantity_key (codes "max"))) (quantity_key (codes "vmax")))
    (quantity_key (codes "amax"))
own_give _ = filled_gives _ _ (record { within = tt; wholes = tt })

-- ---- What is printed there

-- a quantity of a table is read as this
abbrev QuantityRead : List ℕ → List ℕ → Members → ℤ → Type 0
QuantityRead key prefix ms q = required_read (one quantity_in) (prefix ++ key) (get_member key ms) ≡ Ok q

-- so is one that may be missing
abbrev QuantityOr : ℤ → List ℕ → List ℕ → Members → ℤ → Type 0
QuantityOr default key prefix ms q = defaulted_read (one quantity_in) default (prefix ++ key) (get_member key ms) ≡ Ok q

-- a quantity is read back
quantity_at : (key : List ℕ) (rows : List Row) (prefix : List ℕ) (q : ℤ) → IsInRange q
    → value_at key rows None ≡ quantity q
    → QuantityRead key prefix (table_of rows) q
quantity_at key rows prefix q within e =
    required_at key (one quantity_in) rows (prefix ++ key) q
    (ap (required_read (one quantity_in) (prefix ++ key)) e ∙ one_back _ _ _ (quantity_back q within))

-- so is one that may be missing
quantity_or : (default : ℤ) (key : List ℕ) (rows : List Row) (prefix : List ℕ) (q : ℤ) → IsInRange q
    → value_at key rows None ≡ quantity q
    → QuantityOr default key prefix (table_of rows) q
quantity_or default key rows prefix q within e =
    defaulted_at key (one quantity_in) default rows (prefix ++ key) q
    (ap (defaulted_read (one quantity_in) default (prefix ++ key)) e ∙ one_back _ _ _ (quantity_back q within))

-- the table of a controller with this head and these parameters
abbrev pub rows_of : Headed → List IfaceName → List IfaceName → Params → List Row
rows_of head claims reads p = controller_rows (a_headed head claims reads p)

pid_read : (prefix : List ℕ) (ms : Members) (kp ki kd imax omax : ℤ)
    → QuantityOr (pos 0) (codes "kp") prefix ms kp → QuantityOr (pos 0) (codes "ki") prefix ms ki
    → QuantityOr (pos 0) (codes "kd") prefix ms kd
    → QuantityOr (pos 0) (codes "imax") prefix ms imax → QuantityOr largest (codes "omax") prefix ms omax
    → (own_keys kind.Pid).form.read prefix ms ≡ Ok (params.Pid kp ki kd imax omax)
pid_read prefix ms kp ki kd imax omax p i d m o = rw (p, i, d, m, o) refl

mock_read : (prefix : List ℕ) (ms : Members) (refuse_config : Bool) (not_ready fail_update : List ℕ)
    → defaulted_read (one boolean_in) false (prefix ++ codes "refuse_config") (get_member (codes "refuse_config") ms)
    ≡ Ok refuse_config
    → defaulted_read (list_of whole_in) [] (prefix ++ codes "not_ready") (get_member (codes "not_ready") ms)
    ≡ Ok not_ready
    → defaulted_read (list_of whole_in) [] (prefix ++ codes "fail_update") (get_member (codes "fail_update") ms)
    ≡ Ok fail_update
    → (own_keys kind.Mock).form.read prefix ms ≡ Ok (params.Mock 0 refuse_config not_ready fail_update)
mock_read prefix ms refuse_config not_ready fail_update r n f = rw (r, n, f) refl

transmission_read : (prefix : List ℕ) (ms : Members) (reduction offset : ℤ)
    → QuantityRead (codes "reduction") prefix ms reduction → QuantityOr (pos 0) (codes "offset") prefix ms offset
    → (own_keys kind.Transmission).form.read prefix ms ≡ Ok (params.Transmission Position reduction offset)
transmission_read prefix ms reduction offset r o = rw (r, o) refl

differential_read : (prefix : List ℕ) (ms : Members) (reduction1 reduction2 offset1 offset2 : ℤ)
    → QuantityRead (codes "reduction1") prefix ms reduction1 → QuantityRead (codes "reduction2") prefix ms reduction2
    → QuantityOr (pos 0) (codes "offset1") prefix ms offset1 → QuantityOr (pos 0) (codes "offset2") prefix ms offset2
    → (own_keys kind.Differential).form.read prefix ms
    ≡ Ok (params.Differential Position reduction1 reduction2 offset1 offset2)
differential_read prefix ms reduction1 reduction2 offset1 offset2 r s o p = rw (r, s, o, p) refl

limiter_read : (prefix : List ℕ) (ms : Members) (lowest highest vmax amax : ℤ)
    → QuantityRead (codes "min") prefix ms lowest → QuantityRead (codes "max") prefix ms highest
    → QuantityRead (codes "vmax") prefix ms vmax → QuantityRead (codes "amax") prefix ms amax
    → (own_keys kind.Limiter).form.read prefix ms ≡ Ok (params.Limiter lowest highest vmax amax)
limiter_read prefix ms lowest highest vmax amax l h v a = rw (l, h, v, a) refl

-- What stands at a type's own keys is read back, without what claims and reads tell.
pub own_at : (head : Headed) (claims reads : List IfaceName) (p : Params) → AreNumbers p → (prefix : List ℕ)
    → (own_keys (kind_of p)).form.read prefix (table_of (rows_of head claims reads p)) ≡ Ok (made_of p [] [])
own_at head claims reads (params.Pid kp ki kd imax omax) numbers prefix =
    let rows = rows_of head claims reads (params.Pid kp ki kd imax omax) in
    let q = numbers.within in
    pid_read prefix (table_of rows) kp ki kd imax omax (quantity_or (pos 0) (codes "kp") rows prefix kp q.0 refl)
    (quantity_or (pos 0) (codes "ki") rows prefix ki q.1.0 refl)
    (quantity_or (pos 0) (codes "kd") rows prefix kd q.1.1.0 refl)
    (quantity_or (pos 0) (codes "imax") rows prefix imax q.1.1.1.0 refl)
    (quantity_or largest (codes "omax") rows prefix omax q.1.1.1.1.0 refl)
own_at head claims reads (params.Mock outs refuse_config not_ready fail_update) numbers prefix =
    let rows = rows_of head claims reads (params.Mock outs refuse_config not_ready fail_update) in
    mock_read prefix (table_of rows) refuse_config not_ready fail_update
    (defaulted_at (codes "refuse_config") (one boolean_in) false rows (prefix ++ codes "refuse_config") refuse_config
    refl)
    (defaulted_at (codes "not_ready") (list_of whole_in) [] rows (prefix ++ codes "not_ready") not_ready
    (cycles_back (prefix ++ codes "not_ready") not_ready numbers.wholes.0))
    (defaulted_at (codes "fail_update") (list_of whole_in) [] rows (prefix ++ codes "fail_update") fail_update
    (cycles_back (prefix ++ codes "fail_update") fail_update numbers.wholes.1.0))
own_at head claims reads (params.Transmission carried reduction offset) numbers prefix =
    let rows = rows_of head claims reads (params.Transmission carried reduction offset) in
    let q = numbers.within in
    transmission_read prefix (table_of rows) reduction offset
    (quantity_at (codes "reduction") rows prefix reduction q.0 refl)
    (quantity_or (pos 0) (codes "offset") rows prefix offset q.1.0 refl)
own_at head claims reads (params.Differential carried reduction1 reduction2 offset1 offset2) numbers prefix =
    let rows = rows_of head claims reads (params.Differential carried reduction1 reduction2 offset1 offset2) in
    let q = numbers.within in
    differential_read prefix (table_of rows) reduction1 reduction2 offset1 offset2
    (quantity_at (codes "reduction1") rows prefix reduction1 q.0 refl)
    (quantity_at (codes "reduction2") rows prefix reduction2 q.1.0 refl)
    (quantity_or (pos 0) (codes "offset1") rows prefix offset1 q.1.1.0 refl)
    (quantity_or (pos 0) (codes "offset2") rows prefix offset2 q.1.1.1.0 refl)
own_at head claims reads (params.Limiter lowest highest vmax amax) numbers prefix =
    let rows = rows_of head claims reads (params.Limiter lowest highest vmax amax) in
    let q = numbers.within in
    limiter_read prefix (table_of rows) lowest highest vmax amax (quantity_at (codes "min") rows prefix lowest q.0 refl)
    (quantity_at (codes "max") rows prefix highest q.1.0 refl)
    (quantity_at (codes "vmax") rows prefix vmax q.1.1.0 refl)
    (quantity_at (codes "amax") rows prefix amax q.1.1.1.0 refl)
own_at head claims reads _ numbers prefix = refl
