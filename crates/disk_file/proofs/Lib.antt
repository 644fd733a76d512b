mod Overs
