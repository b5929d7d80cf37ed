use Rattle.pt_disk.proofs.laws.a_settled_folder_stays.Goals as goal

pub returns : goal.returns
returns c = λ folder image synced left. λ i name. left name (synced name) i
