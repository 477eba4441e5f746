-- How the logic stores the calls of a store.
use Rattle.std.specs.Prelude.{◌≡◌, ℕ, Bool, true, List, [], ◌∷◌, ◌++◌, refl}
use Rattle.std.specs.Coded.{Coded, code_by, coded×, coded_bool, coded_list, coded_ℕ}
use Rattle.p11_store.specs.Store.{StoreCall}

abbrev pub call_code : Coded StoreCall
call_code = code_by (Bool × (List ℕ × Bool)) (coded× coded_bool (coded× (coded_list coded_ℕ) coded_bool))
    (λ call. (call.is_put, (call.name, call.is_refused)))
    (λ fields. record { is_put = fields.0; name = fields.1.0; is_refused = fields.1.1 }) (λ _. refl)

abbrev pub calls_code : Coded (List StoreCall)
calls_code = coded_list call_code

-- one more put is told, of this name
abbrev pub TellsPut : List ℕ → Bool → List StoreCall → List StoreCall → Type 0
TellsPut name is_refused old new =
    new ≡ old ++ (record { is_put = true; name = name; is_refused = is_refused }) ∷ []
