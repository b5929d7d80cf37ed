mod CommandLemmas
