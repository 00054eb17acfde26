-- Batches keep their certificates while phases change and batches are added.
use Rattle.std.proofs.Common.{◌≡◌, ℕ, zero, suc, List, [], ◌∷◌, ◌++◌, map, refl, sym, ap, ◌∙◌}
use Rattle.std.specs.Prelude.{Option, Some, option_map, slice_get}
use Rattle.std.proofs.lemmas.Option.{slice_get-map}
use Rattle.cairo_model.specs.Certificate.Records.{CertRecord}
use Rattle.desk_core.specs.Turns.{CertsStay, cert_at}
use Rattle.desk_core.specs.Working.Steps.{batches_moved}
use Rattle.desk_core.specs.declared.batch.Batch.{Batch}
use Rattle.desk_core.specs.declared.phase.Phase.{Phase}
use Rattle.desk_core.proofs.NextSealed.{moved_step}

pub certs_same : (bs : List Batch) (o : Option ℕ) → CertsStay bs bs o
certs_same bs o b x at other = ap (option_map (λ (y : Batch). y.cert)) at

-- ---- another phase

moved_certs : (bs : List Batch) (k : ℕ) (p : Phase) → map (λ (y : Batch). y.cert) (batches_moved bs (Some k) p) ≡ map (λ (y : Batch). y.cert) bs
moved_certs [] k p = refl
moved_certs (x ∷ bs) zero p = refl
moved_certs (x ∷ bs) (suc k) p = ap (map (λ (y : Batch). y.cert)) (moved_step x bs k p) ∙ ap (λ (cs : List (Option CertRecord)). x.cert ∷ cs) (moved_certs bs k p)

pub certs_stay_moved : (bs : List Batch) (k : ℕ) (p : Phase) (o : Option ℕ) → CertsStay bs (batches_moved bs (Some k) p) o
certs_stay_moved bs k p o b x at other =
    sym (slice_get-map (λ (y : Batch). y.cert) (batches_moved bs (Some k) p) b)
    ∙ (ap (λ (cs : List (Option CertRecord)). slice_get cs b) (moved_certs bs k p) ∙ (slice_get-map (λ (y : Batch). y.cert) bs b ∙ ap (option_map (λ (y : Batch). y.cert)) at))

-- ---- one batch more

grown_at : (bs : List Batch) (y : Batch) (b : ℕ) (x : Batch) → slice_get bs b ≡ Some x → cert_at (bs ++ y ∷ []) b ≡ Some x.cert
grown_at [] y b x at = absurd (cc)
grown_at (z ∷ bs) y zero x at = ap (option_map (λ (w : Batch). w.cert)) at
grown_at (z ∷ bs) y (suc b) x at = grown_at bs y b x at

pub certs_stay_grown : (bs : List Batch) (y : Batch) (o : Option ℕ) → CertsStay bs (bs ++ y ∷ []) o
certs_stay_grown bs y o b x at other = grown_at bs y b x at
